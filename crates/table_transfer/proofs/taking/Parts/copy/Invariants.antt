use Rattle.std.proofs.Common.{◌≡◌, take}
use Rattle.table_transfer.proofs.taking.Parts.copy.Given as goal

-- so far the rows that the loop has passed are copied
abbrev pub invariant-loop-row : goal.invariant-loop-row
invariant-loop-row l = l.rows.items ≡ take l.row-index l.self.rows
