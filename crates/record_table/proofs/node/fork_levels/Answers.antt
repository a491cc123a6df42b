use Rattle.std.proofs.Common.{arith}
use Rattle.record_table.specs.Trees.{tree_under}
use Rattle.record_table.proofs.Balanced.{levels_few}
use Rattle.record_table.proofs.node.fork_levels.Goals as goal

pub overflow_add-result : goal.overflow_add-result
overflow_add-result c =
    omega (arith, c.levels.ensures, c.levels-2.ensures, c.max.ensures, c.requires.few, levels_few (tree_under c.args.left.now) c.requires.left, levels_few (tree_under c.args.right.now) c.requires.right)
