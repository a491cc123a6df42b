use Rattle.std.proofs.Common.{◌≡◌, ◌++◌, take}
use Rattle.std.specs.Prelude.{All}
use Rattle.group_msgs.specs.Canonical.{rows_field}
use Rattle.group_msgs.specs.Ranges.{FitsRow}
use Rattle.group_msgs.proofs.write.put_rows.Given as goal

abbrev pub invariant-loop-row : goal.invariant-loop-row
invariant-loop-row l = (l.fields ≡ l.fn.fields ++ rows_field (take l.row-index l.rows)) × All FitsRow (take l.row-index l.rows)
