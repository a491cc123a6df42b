use Rattle.record_table.specs.Changes.{changed_row}
use Rattle.record_table.specs.Trees.{tree_under, rows_of}
use Rattle.record_table.proofs.Stored.{changed_tree}
use Rattle.record_table.proofs.tree.TreeRowsRowStore.put.Goals as goal

pub invariant_of-self : goal.invariant_of-self
invariant_of-self c =
    changed_tree c.change_under.result (tree_under c.self.inside.root) (changed_row (rows_of (tree_under c.self.inside.root)) c.args.row.client c.args.row.last c.keeping-change.result)
    (tree_under c.change_under.new.link) c.self.invariant c.change_under.ensures.ok c.change_under.ensures.err
