-- What clients report in schedules.
use Rattle.std.specs.Prelude.{ℕ, List}
use Rattle.values.specs.declared.ids.ClientId.{ClientId}
use Rattle.replica_model.specs.Path.{Link}
use Rattle.group_model.specs.Run.{World}
use Rattle.group_model.specs.Log.{WithinBound, NoCollision}
use Rattle.group_model.specs.Reports.{IsOnlySaid, ReportsHold}
use Rattle.trace_model.specs.Schedules.{world_of}
use Rattle.trace_model.specs.Driven.{driven_world}

-- within the bound and without a collision the reports of each client that no ask names follow the log
abbrev pub ReportsFollowIn : Link → World → Type 0
ReportsFollowIn link w = WithinBound w → NoCollision link w → (c : ClientId) → IsOnlySaid w c → ReportsHold w c w.hearings

-- of every schedule
abbrev pub ScheduleReports : Type 0
ScheduleReports = (link : Link) (bytes : List ℕ) → ReportsFollowIn link (world_of link bytes)

-- of every driven schedule
abbrev pub DrivenReports : Type 0
DrivenReports = (link : Link) (bytes : List ℕ) → ReportsFollowIn link (driven_world link bytes)
