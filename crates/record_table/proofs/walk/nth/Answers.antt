use Rattle.std.proofs.Common.{◌+◌, ◌-◌, refl, sym, ap, subst, ◌∙◌, arith}
use Rattle.std.specs.Prelude.{Some, slice_get}
use Rattle.record_table.specs.Trees.{tree_under, rows_of, IsBalanced}
use Rattle.record_table.proofs.RowIn.{whole_at}
use Rattle.record_table.proofs.Walked.{place_here, place_left, place_right, balanced_left, balanced_right}
use Rattle.record_table.proofs.walk.nth.Goals as goal

pub loop-link-init : goal.loop-link-init
loop-link-init c = record { balanced = c.requires; same = refl }

pub returns-then-rest-before : goal.returns-then-rest-before
returns-then-rest-before c =
    let whole = whole_at c.loop-link.link.now c.in-Some.node c.deref-node.result.now c.in-Some.is c.deref-node.ensures in
    let balanced = subst IsBalanced whole c.loop-link.invariant.balanced in
    let same = ap (λ tree. slice_get (rows_of tree) c.loop-link.rest) (sym whole) ∙ c.loop-link.invariant.same in
    ap Some c.deref.ensures ∙ place_here c.deref-node.result.now balanced c.loop-link.rest (c.if-rest-before.true ∙ c.size-before.ensures) ∙ same

pub loop-link-preserved-then-rest-before-2 : goal.loop-link-preserved-then-rest-before-2
loop-link-preserved-then-rest-before-2 c =
    let whole = whole_at c.loop-link.link.now c.in-Some.node c.deref-node.result.now c.in-Some.is c.deref-node.ensures in
    let balanced = subst IsBalanced whole c.loop-link.invariant.balanced in
    let same = ap (λ tree. slice_get (rows_of tree) c.loop-link.rest) (sym whole) ∙ c.loop-link.invariant.same in
    record {
      balanced = balanced_left c.deref-node.result.now balanced;
      same = place_left c.deref-node.result.now balanced c.loop-link.rest (let a = c.size-before.ensures in let h = c.if-rest-before-2.true in omega arith) ∙ same;
    }

pub loop-link-preserved : goal.loop-link-preserved
loop-link-preserved c =
    let whole = whole_at c.loop-link.link.now c.in-Some.node c.deref-node.result.now c.in-Some.is c.deref-node.ensures in
    let balanced = subst IsBalanced whole c.loop-link.invariant.balanced in
    let same = ap (λ tree. slice_get (rows_of tree) c.loop-link.rest) (sym whole) ∙ c.loop-link.invariant.same in
    record {
      balanced = balanced_right c.deref-node.result.now balanced;
      same =
          place_right c.deref-node.result.now balanced c.loop-link.rest (c.loop-link.rest - (c.size-before.result + 1))
          (let a = c.size-before.ensures in let h = c.if-rest-before.false in let k = c.if-rest-before-2.false in omega arith) ∙ same;
    }

pub returns : goal.returns
returns c = ap (λ tree. slice_get (rows_of tree) c.loop-link.rest) (sym (ap tree_under c.in_default.is)) ∙ c.loop-link.invariant.same
