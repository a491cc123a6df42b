use Rattle.std.proofs.Common.{◌+◌, ◌*◌, length}
use Rattle.record_table.specs.Trees.{tree_of, tree_under, rows_of}
use Rattle.record_table.specs.Growths.{forked_at}
use Rattle.record_table.proofs.insert.+put.Given as goal

abbrev pub decreases-put_in : goal.decreases-put_in
decreases-put_in l = 2 * length (rows_of (tree_of l.node.now)) + 1

abbrev pub decreases-put_at : goal.decreases-put_at
decreases-put_at l = 2 * length (rows_of (forked_at l.side (tree_under l.near.now) l.middle.now.value (tree_under l.far.now)))
