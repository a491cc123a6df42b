use Rattle.std.proofs.Common.{rules, ◌≡◌, true}
use Rattle.std.specs.Prelude.{is_some}
use Rattle.record_table.specs.Trees.{tree_under, forked}
use Rattle.record_table.specs.Trees.Tree.{Empty}
use Rattle.record_table.proofs.AtNode.{hung}
use Rattle.record_table.proofs.hang.hang.Goals as goal

-- src/hang.rt:35:9
pub returns-then-is_some-clause-ok : goal.returns-then-is_some-clause-ok
returns-then-is_some-clause-ok c =
    let some : is_some c.args.far.now ≡ true = search rules in
    let new : tree_under c.in_ok-near.field-0 ≡ forked Empty c.args.row.now.value Empty = search rules in
    hung c.args.side (tree_under c.args.near.now) c.args.far.now c.args.middle.now.value c.args.row.now.value c.requires.ready c.requires.toward c.requires.none some (tree_under c.in_ok-near.field-0) new
