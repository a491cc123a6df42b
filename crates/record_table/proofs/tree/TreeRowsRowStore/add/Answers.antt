use Rattle.std.proofs.Common.{◌<◌, length, sym, ap, subst, ◌∙◌}
use Rattle.std.specs.Prelude.{IsNone}
use Rattle.values.specs.declared.limits.TheConstants.{MOST_ROWS}
use Rattle.record_rules.specs.Table.{row_of}
use Rattle.record_table.specs.Trees.{tree_under, tree_at, rows_of}
use Rattle.record_table.proofs.Nodes.{at_root}
use Rattle.record_table.proofs.Stored.{added_tree}
use Rattle.record_table.proofs.tree.TreeRowsRowStore.add.Goals as goal

pub invariant_of-self : goal.invariant_of-self
invariant_of-self c =
    let whole = sym (ap tree_at c.self.view_is) ∙ at_root c.self.inside.root in
    let same = ap (λ r. r.client) c.in_ok-row.ensures.ok in
    let unknown = subst (λ tree. IsNone (row_of (rows_of tree) c.args.row.client)) whole c.requires.unknown in
    added_tree c.insert.result (tree_under c.self.inside.root) c.in_ok-row.row.value (tree_under c.insert.new.link) c.self.invariant
    (subst (λ tree. length (rows_of tree) < MOST_ROWS) whole c.requires.few)
    (subst (λ client. IsNone (row_of (rows_of (tree_under c.self.inside.root)) client)) (sym same) unknown)
    c.insert.ensures.ok c.insert.ensures.err
