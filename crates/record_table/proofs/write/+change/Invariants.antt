use Rattle.std.proofs.Common.{◌+◌, ◌*◌, length}
use Rattle.record_table.specs.Trees.{tree_of, tree_under, rows_of}
use Rattle.record_table.proofs.write.+change.Given as goal

abbrev pub decreases-change_under : goal.decreases-change_under
decreases-change_under l = 2 * length (rows_of (tree_under l.link.now)) + 1

abbrev pub decreases-change_in : goal.decreases-change_in
decreases-change_in l = 2 * length (rows_of (tree_of l.node.now))
