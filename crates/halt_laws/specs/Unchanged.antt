-- The halt laws where neither the voters nor the margin ever change.
use Rattle.std.specs.Prelude.{◌≡◌, List, []}
use Rattle.std.specs.List.{AllByRecursion}
use Rattle.values.specs.declared.event.Event.{Event}
use Rattle.replica_model.specs.Path.{Link}
use Rattle.group_model.specs.Run.{Recorded, World, run}
use Rattle.group_model.specs.Log.{NoCollision}
use Rattle.group_model.specs.Halts.{HaltLaws}

-- no call tells a Members entry: no admission, removal or other margin was ever accepted
abbrev pub NeverChanges : World → Type 0
NeverChanges w = AllByRecursion (λ (r : Recorded). r.call.batch.members ≡ []) w.field.history

-- the halt laws of these runs
abbrev pub NoHaltUnchanged : Type 0
NoHaltUnchanged =
    (link : Link) (events : List Event) → NeverChanges (run link events) → (run link events).rolled ≡ [] → NoCollision link (run link events)
    → HaltLaws (run link events)
