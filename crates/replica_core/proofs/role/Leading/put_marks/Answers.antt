use Rattle.std.proofs.Common.{ℕ, ◌++◌, ◌∷◌, [], List, map, get_or, ap, ◌∙◌}
use Rattle.std.proofs.lemmas.List.{take_all}
use Rattle.replica_model.specs.declared.Progress.{Progress}
use Rattle.replica_core.specs.Keeping.{mark_in, unknown}
use Rattle.replica_core.proofs.Listed.{map-more}
use Rattle.replica_core.proofs.role.Leading.put_marks.Goals as goal

pub loop-id-init : goal.loop-id-init
loop-id-init c = c.in_ok-push.ensures.items ∙ ap (λ xs. xs ++ (c.args.me, c.args.own) ∷ []) c.clear.ensures.items

pub loop-id-preserved : goal.loop-id-preserved
loop-id-preserved c =
    let ps : List (ℕ × Progress) = c.as_slice-peers.result.now in
    let f : ℕ × Progress → ℕ × ℕ = λ (p : ℕ × Progress). (p.0, mark_in c.args.mark p.1) in
    c.in_ok-push-2.ensures.items
    ∙ (ap (λ k. c.loop-id.marks.items ++ ((get_or ps c.loop-id.id-index (0, unknown)).0, k) ∷ []) c.of.ensures
    ∙ (ap (λ xs. xs ++ f (get_or ps c.loop-id.id-index (0, unknown)) ∷ []) c.loop-id.invariant
    ∙ map-more f ps c.loop-id.id-index (0, unknown) ((c.args.me, c.args.own) ∷ []) c.loop-id-test.true))

pub returns : goal.returns
returns c =
    let ps : List (ℕ × Progress) = c.as_slice-peers.result.now in
    let f : ℕ × Progress → ℕ × ℕ = λ (p : ℕ × Progress). (p.0, mark_in c.args.mark p.1) in
    c.loop-id.invariant
    ∙ (ap (λ xs. (c.args.me, c.args.own) ∷ map f xs) (take_all c.loop-id.id-index ps c.loop-id-test.false)
    ∙ ap (λ xs. (c.args.me, c.args.own) ∷ map f xs) c.as_slice-peers.ensures)
