use Rattle.std.proofs.Common.{ℕ, List, [], ◌∷◌, ◌++◌, map, get_or, ap, ◌∙◌}
use Rattle.std.proofs.lemmas.List.{take_all}
use Rattle.replica_model.specs.declared.Progress.{Progress}
use Rattle.replica_core.proofs.Listed.{map-more}
use Rattle.replica_core.proofs.role.expected_from.Goals as goal

pub loop-peer-init : goal.loop-peer-init
loop-peer-init c = c.in_ok-items.ensures.items

pub loop-peer-preserved : goal.loop-peer-preserved
loop-peer-preserved c =
    let vs : List ℕ = c.args.peers.now in
    let f : ℕ → ℕ × Progress = λ v. (v, record { next = c.args.next; mark = 0; promised = 0 }) in
    c.in_ok-push.ensures.items
    ∙ (ap (λ xs. xs ++ f (get_or vs c.loop-peer.peer-index 0) ∷ []) c.loop-peer.invariant
    ∙ map-more f vs c.loop-peer.peer-index 0 [] c.loop-peer-test.true)

pub returns : goal.returns
returns c =
    let vs : List ℕ = c.args.peers.now in
    let f : ℕ → ℕ × Progress = λ v. (v, record { next = c.args.next; mark = 0; promised = 0 }) in
    c.loop-peer.invariant ∙ ap (map f) (take_all c.loop-peer.peer-index vs c.loop-peer-test.false)
