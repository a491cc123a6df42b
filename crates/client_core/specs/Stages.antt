-- What a client waits for, as the request that it has in flight.
use Rattle.std.specs.Prelude.{ℕ, ◌<◌, ⊤, true, false, Option, Some, None}
use Rattle.values.specs.Sizes.{IsValid, IsSecret}
use Rattle.values.specs.declared.message.Request.TheVariants as request
use Rattle.values.specs.declared.want.Want.TheVariants as want
use Rattle.schedule_model.specs.Reading.{max_u64}
use Rattle.schedule_model.specs.Client.{Flight}
use Rattle.client_core.specs.declared.stage.Stage.{Stage}
use Rattle.client_core.specs.declared.stage.Stage.TheVariants as stage

-- the request in flight has the client's last number
abbrev pub flight_at : ℕ → Stage → Option Flight
flight_at last stage.Idle = None
flight_at last (stage.First (request.Backup secret pin tries)) =
    Some (record { want = want.Store secret pin tries; number = last; exposes = false })
flight_at last (stage.First (request.Restore pin)) = Some (record { want = want.Recover pin; number = last; exposes = false })
flight_at last (stage.First request.Delete) = Some (record { want = want.Erase; number = last; exposes = false })
flight_at last (stage.First (request.Expose secret)) = None
flight_at last (stage.Expose secret pin tries) =
    Some (record { want = want.Store secret pin tries; number = last; exposes = true })

-- The request is valid. No want begins with an expose, and a backup has left a number for its expose.
abbrev pub IsSound : ℕ → Stage → Type 0
IsSound last stage.Idle = ⊤
IsSound last (stage.First (request.Backup secret pin tries)) = IsValid (request.Backup secret pin tries) × (last < max_u64)
IsSound last (stage.First (request.Restore pin)) = ⊤
IsSound last (stage.First request.Delete) = ⊤
IsSound last (stage.First (request.Expose secret)) = ⊥
IsSound last (stage.Expose secret pin tries) = IsSecret secret

abbrev pub after_backup : Stage → Stage
after_backup (stage.First (request.Backup secret pin tries)) = stage.Expose secret pin tries
after_backup other = other
