use Rattle.std.proofs.Common.{◌≡◌, arith, rules}
use Rattle.record_table.specs.declared.node.Node.TheViews.{out-Node, roll-Node}
use Rattle.record_table.specs.Changes.{changed_row, kept_after}
use Rattle.record_table.specs.Trees.{tree_of, tree_under, rows_of, IsWrittenIn}
use Rattle.record_table.proofs.RowIn.{number_at, followed}
use Rattle.record_table.proofs.WrittenIn.{HasRow, has_left, has_right, shorter, write_left, write_middle, write_right}
use Rattle.record_table.proofs.write.+change.Goals as goal

pub change_in-change_under-requires : goal.change_in-change_under-requires
change_in-change_under-requires t c =
    let other = number_at c.args.node.now c.deref.result.now c.number_of-other.result c.deref.ensures c.number_of-other.ensures in
    let has : HasRow (tree_of c.args.node.now) c.args.client.now = record { balanced = c.requires.balanced; rising = c.requires.rising; known = c.requires.known } in
    let n = has_left c.args.node.now c.args.client.now c.args.number c.number_of-other.result c.args.last c.args.change.now c.requires.number other has c.if-number-other-2.true in
    let less = (shorter c.args.node.now c.args.client.now c.args.number c.number_of-other.result c.args.last c.args.change.now c.requires.number other has).0 in
    (search (rules, less), (c.requires.number, (n.balanced, (n.rising, n.known))))

pub change_in-change_under-requires-else-number-other-2 : goal.change_in-change_under-requires-else-number-other-2
change_in-change_under-requires-else-number-other-2 t c =
    let other = number_at c.args.node.now c.deref.result.now c.number_of-other.result c.deref.ensures c.number_of-other.ensures in
    let has : HasRow (tree_of c.args.node.now) c.args.client.now = record { balanced = c.requires.balanced; rising = c.requires.rising; known = c.requires.known } in
    let n = has_right c.args.node.now c.args.client.now c.args.number c.number_of-other.result c.args.last c.args.change.now c.requires.number other has (let a = c.if-number-other.false in let b = c.if-number-other-2.false in omega arith) in
    let less = (shorter c.args.node.now c.args.client.now c.args.number c.number_of-other.result c.args.last c.args.change.now c.requires.number other has).1 in
    (search (rules, less), (c.requires.number, (n.balanced, (n.rising, n.known))))

pub change_in-returns-then-number-other-clause-ok : goal.change_in-returns-then-number-other-clause-ok
change_in-returns-then-number-other-clause-ok t c =
    let other = number_at c.args.node.now c.deref.result.now c.number_of-other.result c.deref.ensures c.number_of-other.ensures in
    let has : HasRow (tree_of c.args.node.now) c.args.client.now = record { balanced = c.requires.balanced; rising = c.requires.rising; known = c.requires.known } in
    followed c.change_held.result (c.change_held.new.row.value ≡ record (out-Node c.args.node.now).row.value { last = c.args.last; kept = kept_after c.args.change.now (out-Node c.args.node.now).row.value.kept })
    (IsWrittenIn (tree_of c.args.node.now) (changed_row (rows_of (tree_of c.args.node.now)) c.args.client.now c.args.last c.args.change.now) (tree_of (roll-Node (record { left = (out-Node c.args.node.now).left; row = c.change_held.new.row; right = (out-Node c.args.node.now).right; size = (out-Node c.args.node.now).size; levels = (out-Node c.args.node.now).levels }))))
    (write_middle c.args.node.now c.args.client.now c.args.number c.number_of-other.result c.args.last c.args.change.now c.requires.number other has c.change_held.new.row c.if-number-other.true)
    c.change_held.ensures.ok

pub change_in-returns-then-number-other-2-clause-ok : goal.change_in-returns-then-number-other-2-clause-ok
change_in-returns-then-number-other-2-clause-ok t c =
    let other = number_at c.args.node.now c.deref.result.now c.number_of-other.result c.deref.ensures c.number_of-other.ensures in
    let has : HasRow (tree_of c.args.node.now) c.args.client.now = record { balanced = c.requires.balanced; rising = c.requires.rising; known = c.requires.known } in
    followed c.change_under.result (IsWrittenIn (tree_under (out-Node c.args.node.now).left) (changed_row (rows_of (tree_under (out-Node c.args.node.now).left)) c.args.client.now c.args.last c.args.change.now) (tree_under c.change_under.new.link))
    (IsWrittenIn (tree_of c.args.node.now) (changed_row (rows_of (tree_of c.args.node.now)) c.args.client.now c.args.last c.args.change.now) (tree_of (roll-Node (record { left = c.change_under.new.link; row = (out-Node c.args.node.now).row; right = (out-Node c.args.node.now).right; size = (out-Node c.args.node.now).size; levels = (out-Node c.args.node.now).levels }))))
    (write_left c.args.node.now c.args.client.now c.args.number c.number_of-other.result c.args.last c.args.change.now c.requires.number other has c.change_under.new.link c.if-number-other-2.true)
    c.change_under.ensures.ok

pub change_in-returns-else-number-other-2-clause-ok : goal.change_in-returns-else-number-other-2-clause-ok
change_in-returns-else-number-other-2-clause-ok t c =
    let other = number_at c.args.node.now c.deref.result.now c.number_of-other.result c.deref.ensures c.number_of-other.ensures in
    let has : HasRow (tree_of c.args.node.now) c.args.client.now = record { balanced = c.requires.balanced; rising = c.requires.rising; known = c.requires.known } in
    followed c.change_under-else-number-other-2.result (IsWrittenIn (tree_under (out-Node c.args.node.now).right) (changed_row (rows_of (tree_under (out-Node c.args.node.now).right)) c.args.client.now c.args.last c.args.change.now) (tree_under c.change_under-else-number-other-2.new.link))
    (IsWrittenIn (tree_of c.args.node.now) (changed_row (rows_of (tree_of c.args.node.now)) c.args.client.now c.args.last c.args.change.now) (tree_of (roll-Node (record { left = (out-Node c.args.node.now).left; row = (out-Node c.args.node.now).row; right = c.change_under-else-number-other-2.new.link; size = (out-Node c.args.node.now).size; levels = (out-Node c.args.node.now).levels }))))
    (write_right c.args.node.now c.args.client.now c.args.number c.number_of-other.result c.args.last c.args.change.now c.requires.number other has c.change_under-else-number-other-2.new.link (let a = c.if-number-other.false in let b = c.if-number-other-2.false in omega arith))
    c.change_under-else-number-other-2.ensures.ok
