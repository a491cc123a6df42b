use Rattle.std.proofs.Common.{ℕ, List, [], ◌∷◌, ◌++◌, take, sym, ap, ◌∙◌}
use Rattle.std.proofs.lemmas.List.{take_all, take_more}
use Rattle.table_transfer.specs.SentTable.{SentTable}
use Rattle.replica_core.proofs.copies.copy_sendings.Goals as goal

pub loop-id-init : goal.loop-id-init
loop-id-init c = c.in_ok-items.ensures.items

pub loop-id-preserved : goal.loop-id-preserved
loop-id-preserved c =
    let xs : List (ℕ × SentTable) = c.as_slice-sendings.result.now in
    let i : ℕ = c.loop-id.id-index in
    let x : ℕ × SentTable = c.loop-id-item.result in
    c.in_ok-push.ensures.items
    ∙ (ap (λ k. c.loop-id.items.items ++ (x.0, k) ∷ []) c.in_ok-copy.ensures
    ∙ (ap (λ ys. ys ++ x ∷ []) c.loop-id.invariant
    ∙ (ap (λ y. take i xs ++ y ∷ []) c.loop-id-item.is ∙ sym (take_more xs i x c.loop-id-test.true))))

pub returns : goal.returns
returns c =
    let xs : List (ℕ × SentTable) = c.as_slice-sendings.result.now in
    c.from.ensures ∙ (c.loop-id.invariant ∙ (take_all c.loop-id.id-index xs c.loop-id-test.false ∙ c.as_slice-sendings.ensures))
