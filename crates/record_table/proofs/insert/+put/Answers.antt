use Rattle.std.proofs.Common.{rules, arith, ◌≡◌, ◌<◌, ◌∙◌, length, ap, sym, subst}
use Rattle.values.specs.declared.limits.TheConstants.{MOST_ROWS}
use Rattle.record_table.specs.Trees.{tree_of, tree_under, rows_of, size_of, levels_of, IsReady}
use Rattle.record_table.specs.Growths.{forked_at, IsOverAt}
use Rattle.record_table.proofs.Nodes.{tree_roll}
use Rattle.record_table.proofs.RowIn.{number_at, less, more}
use Rattle.record_table.proofs.Growing.{ready_at}
use Rattle.record_table.proofs.AtNode.{under_at, shorter_at, few_over, few_grew, at_level, at_counted, at_turned, at_grown, at_over, at_inner, rows_node, ready_node, size_few, levels_fit, put_in_node}
use Rattle.record_table.proofs.insert.+put.Goals as goal

pub put_at-put_in-requires : goal.put_at-put_in-requires
put_at-put_in-requires t c =
    let under = under_at c.args.near.now c.in-Some.rc c.unshare.new.node c.in-Some-get_mut.low.now c.in-Some.is c.unshare.ensures c.in-Some-get_mut.ensures.value in
    let short = subst (λ u. length (rows_of u) < length (rows_of (forked_at c.args.side (tree_under c.args.near.now) c.args.middle.now.value (tree_under c.args.far.now)))) under
    (shorter_at c.args.side (tree_under c.args.near.now) (tree_under c.args.far.now) c.args.middle.now.value) in
    (search (rules, short), (c.requires.number, subst (λ u. IsReady u c.args.row.now.value.client) under (ready_at c.args.side (tree_under c.args.near.now) (tree_under c.args.far.now) c.args.middle.now.value c.args.row.now.value c.requires.ready c.requires.toward)))

pub put_at-turn-requires-clause-few : goal.put_at-turn-requires-clause-few
put_at-turn-requires-clause-few t c =
    let under = under_at c.args.near.now c.in-Some.rc c.unshare.new.node c.in-Some-get_mut.low.now c.in-Some.is c.unshare.ensures c.in-Some-get_mut.ensures.value in
    few_over c.args.side (tree_under c.args.near.now) (tree_under c.args.far.now) c.args.middle.now.value c.args.row.now.value c.requires.ready c.requires.toward c.in-Some-get_mut.low.now c.put_in.new.node under c.levels-far_levels.result c.levels-far_levels.ensures c.then_some-higher.result c.then_some-higher.ensures c.in_ok-put_in.field-0 c.in_ok-put_in.ensures.ok c.in-Over.is

pub put_at-turn-requires-in-Some-2-clause-few : goal.put_at-turn-requires-in-Some-2-clause-few
put_at-turn-requires-in-Some-2-clause-few t c =
    let under = under_at c.args.near.now c.in-Some.rc c.unshare.new.node c.in-Some-get_mut.low.now c.in-Some.is c.unshare.ensures c.in-Some-get_mut.ensures.value in
    few_grew c.args.side (tree_under c.args.near.now) (tree_under c.args.far.now) c.args.middle.now.value c.args.row.now.value c.requires.ready c.requires.toward c.in-Some-get_mut.low.now c.put_in.new.node under c.levels-far_levels.result c.levels-far_levels.ensures c.then_some-higher.result c.then_some-higher.ensures c.in_ok-put_in.field-0 c.in_ok-put_in.ensures.ok c.in-Grew.is

pub put_at-returns-then-low-far_levels-clause-ok : goal.put_at-returns-then-low-far_levels-clause-ok
put_at-returns-then-low-far_levels-clause-ok t c =
    let under = under_at c.args.near.now c.in-Some.rc c.unshare.new.node c.in-Some-get_mut.low.now c.in-Some.is c.unshare.ensures c.in-Some-get_mut.ensures.value in
    at_level c.args.side (tree_under c.args.near.now) (tree_under c.args.far.now) c.args.middle.now.value c.args.row.now.value c.requires.ready c.requires.toward c.in-Some-get_mut.low.now c.put_in.new.node under c.levels-far_levels.result c.levels-far_levels.ensures c.then_some-higher.result c.then_some-higher.ensures c.in_ok-put_in.field-0 c.in_ok-put_in.ensures.ok c.in-Grew.is c.if-low-far_levels.true

pub put_at-returns-in-Counted-clause-ok : goal.put_at-returns-in-Counted-clause-ok
put_at-returns-in-Counted-clause-ok t c =
    let under = under_at c.args.near.now c.in-Some.rc c.unshare.new.node c.in-Some-get_mut.low.now c.in-Some.is c.unshare.ensures c.in-Some-get_mut.ensures.value in
    at_counted c.args.side (tree_under c.args.near.now) (tree_under c.args.far.now) c.args.middle.now.value c.args.row.now.value c.requires.ready c.requires.toward c.in-Some-get_mut.low.now c.put_in.new.node under c.levels-far_levels.result c.levels-far_levels.ensures c.then_some-higher.result c.then_some-higher.ensures c.in_ok-put_in.field-0 c.in_ok-put_in.ensures.ok c.in-Counted.is

pub put_at-returns-in-Over-clause-ok : goal.put_at-returns-in-Over-clause-ok
put_at-returns-in-Over-clause-ok t c =
    let under = under_at c.args.near.now c.in-Some.rc c.unshare.new.node c.in-Some-get_mut.low.now c.in-Some.is c.unshare.ensures c.in-Some-get_mut.ensures.value in
    at_turned c.args.side (tree_under c.args.near.now) (tree_under c.args.far.now) c.args.middle.now.value c.args.row.now.value c.requires.ready c.requires.toward c.in-Some-get_mut.low.now c.put_in.new.node under c.levels-far_levels.result c.levels-far_levels.ensures c.then_some-higher.result c.then_some-higher.ensures c.in_ok-put_in.field-0 c.in_ok-put_in.ensures.ok
    (tree_under c.swap.new.x) (tree_under c.swap.new.y) c.turn.new.row.value (ap tree_under c.swap.ensures.x_after ∙ c.turn.ensures.other) (ap tree_under c.swap.ensures.y_after ∙ c.turn.ensures.low) c.turn.ensures.row c.in-Over.is

pub put_at-returns-in-None-clause-ok : goal.put_at-returns-in-None-clause-ok
put_at-returns-in-None-clause-ok t c =
    let under = under_at c.args.near.now c.in-Some.rc c.unshare.new.node c.in-Some-get_mut.low.now c.in-Some.is c.unshare.ensures c.in-Some-get_mut.ensures.value in
    rw c.in-None.is (at_grown c.args.side (tree_under c.args.near.now) (tree_under c.args.far.now) c.args.middle.now.value c.args.row.now.value c.requires.ready c.requires.toward c.in-Some-get_mut.low.now c.put_in.new.node under c.levels-far_levels.result c.levels-far_levels.ensures c.then_some-higher.result c.then_some-higher.ensures c.in_ok-put_in.field-0 c.in_ok-put_in.ensures.ok c.in-Grew.is (let high = c.if-low-far_levels.false in omega arith))

pub put_at-returns-in-Some-above-clause-ok : goal.put_at-returns-in-Some-above-clause-ok
put_at-returns-in-Some-above-clause-ok t c =
    let under = under_at c.args.near.now c.in-Some.rc c.unshare.new.node c.in-Some-get_mut.low.now c.in-Some.is c.unshare.ensures c.in-Some-get_mut.ensures.value in
    let same : c.args.side ≡ c.in-Some-above.higher = search rules in
    rw c.in-Some-above.is (subst (λ s. IsOverAt s (forked_at c.args.side (tree_under c.args.near.now) c.args.middle.now.value (tree_under c.args.far.now)) c.args.row.now.value (forked_at c.args.side (tree_of c.put_in.new.node) c.args.middle.now.value (tree_under c.args.far.now))) same
    (at_over c.args.side (tree_under c.args.near.now) (tree_under c.args.far.now) c.args.middle.now.value c.args.row.now.value c.requires.ready c.requires.toward c.in-Some-get_mut.low.now c.put_in.new.node under c.levels-far_levels.result c.levels-far_levels.ensures c.then_some-higher.result c.then_some-higher.ensures c.in_ok-put_in.field-0 c.in_ok-put_in.ensures.ok c.in-Grew.is (let high = c.if-low-far_levels.false in omega arith)))

pub put_at-returns-in-Some-2-clause-ok : goal.put_at-returns-in-Some-2-clause-ok
put_at-returns-in-Some-2-clause-ok t c =
    let under = under_at c.args.near.now c.in-Some.rc c.unshare.new.node c.in-Some-get_mut.low.now c.in-Some.is c.unshare.ensures c.in-Some-get_mut.ensures.value in
    rw c.in-Some-above.is (at_inner c.args.side (tree_under c.args.near.now) (tree_under c.args.far.now) c.args.middle.now.value c.args.row.now.value c.requires.ready c.requires.toward c.in-Some-get_mut.low.now c.put_in.new.node under c.levels-far_levels.result c.levels-far_levels.ensures c.then_some-higher.result c.then_some-higher.ensures c.in_ok-put_in.field-0 c.in_ok-put_in.ensures.ok
    (tree_under c.swap-in-Some-2.new.x) (tree_under c.swap-in-Some-2.new.y) c.turn-in-Some-2.new.row.value (ap tree_under c.swap-in-Some-2.ensures.x_after ∙ c.turn-in-Some-2.ensures.other) (ap tree_under c.swap-in-Some-2.ensures.y_after ∙ c.turn-in-Some-2.ensures.low) c.turn-in-Some-2.ensures.row c.in-Some-above.higher (λ is. let same = is in search rules) c.in-Grew.is (let high = c.if-low-far_levels.false in omega arith))

pub put_in-put_at-requires : goal.put_in-put_at-requires
put_in-put_at-requires t c =
    let other = number_at c.args.node.now c.deref.result.now c.number_of.result c.deref.ensures c.number_of.ensures in
    let same = rows_node c.args.node.now c.args.row.now.value c.requires.ready in
    (search (rules, same), (c.requires.number, (ready_node c.args.node.now c.args.row.now.value c.requires.ready, less c.args.node.now c.args.row.now.value c.args.number c.number_of.result c.requires.number other c.requires.ready c.if-number-number_of.true)))

pub put_in-count-requires-clause-size : goal.put_in-count-requires-clause-size
put_in-count-requires-clause-size t c =
    subst (λ size. size < MOST_ROWS) (sym (ap size_of (tree_roll _))) (size_few c.args.node.now c.args.row.now.value c.requires.ready)

pub put_in-count-requires-clause-levels : goal.put_in-count-requires-clause-levels
put_in-count-requires-clause-levels t c =
    subst (λ levels. levels < MOST_ROWS) (sym (ap levels_of (tree_roll _))) (levels_fit c.args.node.now c.args.row.now.value c.requires.ready)

pub put_in-put_at-requires-else-number-number_of : goal.put_in-put_at-requires-else-number-number_of
put_in-put_at-requires-else-number-number_of t c =
    let other = number_at c.args.node.now c.deref.result.now c.number_of.result c.deref.ensures c.number_of.ensures in
    let same = rows_node c.args.node.now c.args.row.now.value c.requires.ready in
    (search (rules, same), (c.requires.number, (ready_node c.args.node.now c.args.row.now.value c.requires.ready, more c.args.node.now c.args.row.now.value c.args.number c.number_of.result c.requires.number other c.requires.ready c.if-number-number_of.false)))

pub put_in-count-requires-else-number-number_of-clause-size : goal.put_in-count-requires-else-number-number_of-clause-size
put_in-count-requires-else-number-number_of-clause-size t c =
    subst (λ size. size < MOST_ROWS) (sym (ap size_of (tree_roll _))) (size_few c.args.node.now c.args.row.now.value c.requires.ready)

pub put_in-count-requires-else-number-number_of-clause-levels : goal.put_in-count-requires-else-number-number_of-clause-levels
put_in-count-requires-else-number-number_of-clause-levels t c =
    subst (λ levels. levels < MOST_ROWS) (sym (ap levels_of (tree_roll _))) (levels_fit c.args.node.now c.args.row.now.value c.requires.ready)

pub put_in-returns-in_ok-growth-clause-ok : goal.put_in-returns-in_ok-growth-clause-ok
put_in-returns-in_ok-growth-clause-ok t c =
    put_in_node c.args.node.now c.args.row.now.value c.requires.ready c.args.above c.in_ok-growth.growth (tree_under c.put_at.new.near) (tree_under c.put_at.new.far) _ _ _ (tree_roll _) c.count.ensures c.in_ok-growth.ensures.ok

pub put_in-returns-in_ok-growth-2-clause-ok : goal.put_in-returns-in_ok-growth-2-clause-ok
put_in-returns-in_ok-growth-2-clause-ok t c =
    put_in_node c.args.node.now c.args.row.now.value c.requires.ready c.args.above c.in_ok-growth-2.growth (tree_under c.put_at-else-number-number_of.new.far) (tree_under c.put_at-else-number-number_of.new.near) _ _ _ (tree_roll _) c.count-else-number-number_of.ensures c.in_ok-growth-2.ensures.ok
