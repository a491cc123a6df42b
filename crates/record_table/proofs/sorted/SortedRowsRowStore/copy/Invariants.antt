use Rattle.std.proofs.Common.{◌≡◌, take}
use Rattle.record_table.proofs.sorted.SortedRowsRowStore.copy.Given as goal

abbrev pub invariant-loop-row : goal.invariant-loop-row
invariant-loop-row l = l.slots.items ≡ take l.row-index l.self-inside.slots.items
