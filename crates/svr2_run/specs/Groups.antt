-- How the play of a group over a field that was handed in ends, as the status of a run.
use Rattle.std.specs.Prelude.{ℕ, ◌≡◌, List, Option, IsSome}
use Rattle.enclave_host.specs.Fields.{Map}
use Rattle.group_world.specs.Runs.{DecidedOver, FailedOver, OverContents, OverEnclaves, RunsAfter}
use Rattle.group_world.specs.declared.schedule.Played.{Played}
use Rattle.group_world.specs.declared.schedule.Played.TheVariants as end
use Rattle.svr2_run.specs.Run.{status_played}
use Rattle.svr2_run.specs.declared.exit.Status.{Status}

-- It ended so over a source that held all these bytes, with what the source has left, what the sink gained, and what the
-- field tells: who ran before and runs now, and what it had answered before and has answered now.
pub record GroupsOver (map map' : Option Map) (told told' : Option (List (List ℕ))) (all : List ℕ) (left old new : Option (List ℕ)) (result : Status) : Type 0 where
  pub played : Played
  pub status : result ≡ status_played played
  -- over a field that tells who runs: the trace over the model's enclaves, or, where it failed, the lines of the events before
  pub enclaves : IsSome map → OverEnclaves all left old new played
  pub failed : IsSome map → played ≡ end.FieldFault → FailedOver told told' all old new
  -- after all records the replicas of the model's group run in that field, and nobody else does
  pub replicas : IsSome map → played ≡ end.Done → RunsAfter all map'
  -- over a field that tells its answers: the trace from those that it gave, all of which it takes
  pub contents : OverContents told told' all left old new played

-- where nothing failed, the records and the field's answers decided how it ended
pub record GroupDecides (map : Option Map) (told told' : Option (List (List ℕ))) (all : List ℕ) (result : Status) : Type 0 where
  pub played : Played
  pub status : result ≡ status_played played
  pub decided : DecidedOver map told told' all played
