use Rattle.std.proofs.Common.{ℕ, ◌≤◌, List, take, get_or, refl, sym, ap, subst, ◌∙◌}
use Rattle.std.proofs.lemmas.List.{take_all}
use Rattle.values.specs.declared.limits.TheConstants.{TOP}
use Rattle.replica_model.specs.declared.Progress.{Progress}
use Rattle.replica_model.specs.Keyed.{put}
use Rattle.replica_core.specs.declared.role.Leading.{Leading}
use Rattle.replica_core.specs.Keeping.{IsWithin, progress_in}
use Rattle.replica_core.specs.Sending.{fallen_back, all_fallen_back}
use Rattle.replica_core.proofs.Again.{fallen-more-held, fallen-more-put}
use Rattle.replica_core.proofs.Sounds.{within-in, fallen-within}
use Rattle.replica_core.proofs.role.Leading.fall_back.Goals as goal

pub loop-peer-init : goal.loop-peer-init
loop-peer-init c = refl

pub loop-peer-preserved-then-holds : goal.loop-peer-preserved-then-holds
loop-peer-preserved-then-holds c =
    fallen-more-held c.args.self.now c.args.base c.args.peers.now c.loop-peer.peer-index c.loop-peer-test.true c.loop-peer.self c.loop-peer.invariant
    (sym c.holds.ensures ∙ c.if-holds.true)

pub fallen_back-progress-requires-clause-mark : goal.fallen_back-progress-requires-clause-mark
fallen_back-progress-requires-clause-mark c =
    let l : Leading = c.args.self.now in
    let vs : List ℕ = take c.loop-peer.peer-index c.args.peers.now in
    let v : ℕ = get_or c.args.peers.now c.loop-peer.peer-index 0 in
    let all = fallen-within TOP c.args.base l.sendings l.progress vs c.requires.base c.requires.within in
    let known : IsWithin TOP (progress_in c.loop-peer.self.progress v) =
    subst (λ (k : Leading). IsWithin TOP (progress_in k.progress v)) (sym c.loop-peer.invariant)
    (within-in TOP (all_fallen_back c.args.base l.sendings l.progress vs) v all) in
    subst (λ (p : Progress). p.mark ≤ TOP) (sym c.progress_of.ensures) known.mark

pub loop-peer-preserved : goal.loop-peer-preserved
loop-peer-preserved c =
    let v : ℕ = get_or c.args.peers.now c.loop-peer.peer-index 0 in
    ap (λ ps. record (c.loop-peer.self) { progress = ps })
    (c.in_ok-put.ensures ∙ ap (put c.loop-peer.self.progress v) (c.fallen_back-progress.ensures ∙ ap (fallen_back c.args.base) c.progress_of.ensures))
    ∙ fallen-more-put c.args.self.now c.args.base c.args.peers.now c.loop-peer.peer-index c.loop-peer-test.true c.loop-peer.self c.loop-peer.invariant
    (sym c.holds.ensures ∙ c.if-holds.false)

pub returns : goal.returns
returns c =
    let l : Leading = c.args.self.now in
    c.loop-peer.invariant ∙ ap (λ vs. record l { progress = all_fallen_back c.args.base l.sendings l.progress vs }) (take_all c.loop-peer.peer-index c.args.peers.now c.loop-peer-test.false)
