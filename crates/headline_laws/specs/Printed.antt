-- The laws of runs, where the closing lines say that the bound was kept.
use Rattle.std.specs.Prelude.{◌≡◌, ℕ, List, length, IsTrue}
use Rattle.replica_model.specs.Path.{Link}
use Rattle.group_model.specs.Group.{is_within}
use Rattle.group_model.specs.Run.{World}
use Rattle.group_model.specs.Log.{log_of, NoCollision}
use Rattle.group_model.specs.Laws.{OneLogLaws}
use Rattle.trace_model.specs.Schedules.{world_of}
use Rattle.trace_model.specs.Driven.{driven_world}

-- where `rollbacks` says `within`, and without a collision, the laws hold, and `log` prints the length of the log
abbrev pub HoldsAsPrinted : Link → World → Type 0
HoldsAsPrinted link w = IsTrue (is_within w) → NoCollision link w → OneLogLaws w × (w.committed ≡ length (log_of w))

-- of every schedule
abbrev pub PrintedHeadline : Type 0
PrintedHeadline = (link : Link) (bytes : List ℕ) → HoldsAsPrinted link (world_of link bytes)

-- of every driven schedule
abbrev pub PrintedDriven : Type 0
PrintedDriven = (link : Link) (bytes : List ℕ) → HoldsAsPrinted link (driven_world link bytes)
