use Rattle.std.proofs.Common.{◌+◌, ◌/◌, ◌^◌, ◌≤◌, length, sym, ap, subst, ◌∙◌}
use Rattle.record_table.specs.Trees.{tree_under, tree_at, rows_of, levels_of}
use Rattle.record_table.proofs.Nodes.{at_root}
use Rattle.record_table.proofs.Balanced.{levels_bound}
use Rattle.record_table.proofs.tree.TreeRows.height.Goals as goal

pub returns-clause-low : goal.returns-clause-low
returns-clause-low c =
    subst (λ levels. 2 ^ (levels / 2) ≤ length (rows_of (tree_at c.args.self.now)) + 1) (sym c.levels.ensures)
    (subst (λ tree. 2 ^ (levels_of (tree_under c.self.inside.root) / 2) ≤ length (rows_of tree) + 1) (sym (at_root c.self.inside.root) ∙ ap tree_at c.self.view_is)
    (levels_bound (tree_under c.self.inside.root) c.self.invariant.balanced))
