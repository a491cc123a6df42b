use Rattle.std.proofs.Common.{◌≡◌, take}
use Rattle.std.specs.Prelude.{fold}
use Rattle.record_rules.specs.Table.{row_added}
use Rattle.table_transfer.proofs.taking.add_rows.Given as goal

-- so far the rows that the loop has passed are added
abbrev pub invariant-loop-row : goal.invariant-loop-row
invariant-loop-row l = l.table ≡ fold row_added l.fn.table (take l.row-index l.rows)
