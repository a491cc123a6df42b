use Rattle.std.proofs.Common.{◌≡◌, [], get_or, take, subst, sym, ap, ◌∙◌, arith, take_all}
use Rattle.std.specs.Prelude.{fold}
use Rattle.std.specs.Ordering.{nat_cmp}
use Rattle.std.specs.BTreeSet.{insert_key}
use Rattle.std.proofs.lemmas.List.Sums.{fold_more}
use Rattle.std.proofs.lemmas.Result.{IfOk-weaker}
use Rattle.values.specs.Rising.{Rising}
use Rattle.host_inputs.specs.Checking.{each_once}
use Rattle.host_inputs.proofs.lists.each_once.Goals as goal

pub loop-id-preserved : goal.loop-id-preserved
loop-id-preserved c =
    let more = fold_more (insert_key nat_cmp) [] c.args.listed.now c.loop-id.id-index 0 c.loop-id-test.true in
    c.in_ok-insert.ensures.keys ∙ ap (λ ks. insert_key nat_cmp ks (get_or c.args.listed.now c.loop-id.id-index 0)) c.loop-id.invariant ∙ sym more

pub rising_ids-requires : goal.rising_ids-requires
rising_ids-requires c = subst Rising (sym c.as_slice.ensures.value) c.in_ok-ids.ensures.rising

pub returns-clause-once : goal.returns-clause-once
returns-clause-once c =
    let listed = c.args.listed.now in
    let all : take c.loop-id.id-index listed ≡ listed = take_all c.loop-id.id-index listed (omega arith) in
    let whole : c.as_slice.result.now ≡ each_once listed = c.as_slice.ensures.value ∙ c.in_ok-ids.ensures.items ∙ c.loop-id.invariant ∙ ap (fold (insert_key nat_cmp) []) all in
    IfOk-weaker c.rising_ids.result (λ ids. ids ≡ c.as_slice.result.now) (λ ids. ids ≡ each_once listed) (λ ids e. e ∙ whole) c.rising_ids.ensures
