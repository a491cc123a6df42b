-- One log over every run.
use Rattle.std.specs.List.{AllByRecursion}
use Rattle.values.specs.declared.event.Event.{Event}
use Rattle.std.specs.Prelude.{List}
use Rattle.replica_model.specs.Path.{Link}
use Rattle.group_model.specs.Run.{World, run}
use Rattle.group_model.specs.Log.{IsFrontOf, fronts_of, log_of, WithinBound, NoCollision}

-- every committed front of any replica after any call is a front of the log
abbrev pub IsOneLog : World → Type 0
IsOneLog w = AllByRecursion (λ p. IsFrontOf p (log_of w)) (fronts_of w)

-- so it is in every run within the rollback bound and without a collision
abbrev pub RunsHaveOneLog : Type 0
RunsHaveOneLog = (link : Link) (events : List Event) → WithinBound (run link events) → NoCollision link (run link events) → IsOneLog (run link events)
