use Rattle.std.proofs.Common.{refl, sym, ap, subst, ◌∙◌, arith}
use Rattle.std.specs.Prelude.{Some}
use Rattle.record_rules.specs.Table.{row_of, IsRising}
use Rattle.record_table.specs.Trees.{tree_under, rows_of}
use Rattle.record_table.proofs.RowIn.{whole_at, number_at}
use Rattle.record_table.proofs.Walked.{found_here, found_left, found_right, rising_left, rising_right}
use Rattle.record_table.proofs.walk.find.Goals as goal

pub loop-link-init : goal.loop-link-init
loop-link-init c = record { rising = c.requires; same = refl }

pub returns-then-number-other : goal.returns-then-number-other
returns-then-number-other c =
    let whole = whole_at c.loop-link.link.now c.in-Some.node c.deref-node.result.now c.in-Some.is c.deref-node.ensures in
    let rising = subst (λ tree. IsRising (rows_of tree)) whole c.loop-link.invariant.rising in
    let same = ap (λ tree. row_of (rows_of tree) c.args.client.now) (sym whole) ∙ c.loop-link.invariant.same in
    let other = number_at c.deref-node.result.now c.deref.result.now c.number_of-other.result c.deref.ensures c.number_of-other.ensures in
    ap Some c.deref-then-number-other.ensures ∙ found_here c.deref-node.result.now c.args.client.now c.number_of-number.result c.number_of-other.result c.number_of-number.ensures other rising c.if-number-other.true ∙ same

pub loop-link-preserved-then-number-other-2 : goal.loop-link-preserved-then-number-other-2
loop-link-preserved-then-number-other-2 c =
    let whole = whole_at c.loop-link.link.now c.in-Some.node c.deref-node.result.now c.in-Some.is c.deref-node.ensures in
    let rising = subst (λ tree. IsRising (rows_of tree)) whole c.loop-link.invariant.rising in
    let same = ap (λ tree. row_of (rows_of tree) c.args.client.now) (sym whole) ∙ c.loop-link.invariant.same in
    let other = number_at c.deref-node.result.now c.deref.result.now c.number_of-other.result c.deref.ensures c.number_of-other.ensures in
    record { rising = rising_left c.deref-node.result.now c.args.client.now c.number_of-number.result c.number_of-other.result c.number_of-number.ensures other rising; same = found_left c.deref-node.result.now c.args.client.now c.number_of-number.result c.number_of-other.result c.number_of-number.ensures other rising c.if-number-other-2.true ∙ same }

pub loop-link-preserved : goal.loop-link-preserved
loop-link-preserved c =
    let whole = whole_at c.loop-link.link.now c.in-Some.node c.deref-node.result.now c.in-Some.is c.deref-node.ensures in
    let rising = subst (λ tree. IsRising (rows_of tree)) whole c.loop-link.invariant.rising in
    let same = ap (λ tree. row_of (rows_of tree) c.args.client.now) (sym whole) ∙ c.loop-link.invariant.same in
    let other = number_at c.deref-node.result.now c.deref.result.now c.number_of-other.result c.deref.ensures c.number_of-other.ensures in
    record {
      rising = rising_right c.deref-node.result.now c.args.client.now c.number_of-number.result c.number_of-other.result c.number_of-number.ensures other rising;
      same = found_right c.deref-node.result.now c.args.client.now c.number_of-number.result c.number_of-other.result c.number_of-number.ensures other rising (let a = c.if-number-other.false in let b = c.if-number-other-2.false in omega arith) ∙ same;
    }

pub returns : goal.returns
returns c = ap (λ tree. row_of (rows_of tree) c.args.client.now) (sym (ap tree_under c.in_default.is)) ∙ c.loop-link.invariant.same
