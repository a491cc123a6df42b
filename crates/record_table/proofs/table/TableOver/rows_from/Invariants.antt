use Rattle.std.proofs.Common.{◌≡◌, ◌-◌, take, drop}
use Rattle.record_table.proofs.table.TableOver.rows_from.Given as goal

abbrev pub invariant-loop-at : goal.invariant-loop-at
invariant-loop-at g l = l.rows ≡ take (l.at - l.place) (drop l.place l.self.rows)
