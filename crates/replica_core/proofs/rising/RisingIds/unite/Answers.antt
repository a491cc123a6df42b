use Rattle.std.proofs.Common.{[], ◌∷◌, fold, map, refl, sym, ap, ◌∙◌}
use Rattle.std.proofs.lemmas.List.{map-append}
use Rattle.std.proofs.lemmas.List.Sums.{fold_push}
use Rattle.std.proofs.lemmas.Iterator.Consumers.{YieldsList-end}
use Rattle.std.proofs.lemmas.Iterator.Adapters.{YieldsList-from_rev_slice}
use Rattle.replica_model.specs.Peers.{with_id}
use Rattle.replica_model.proofs.United.{united-fold}
use Rattle.replica_core.proofs.rising.RisingIds.unite.Goals as goal

pub loop-id-init : goal.loop-id-init
loop-id-init c = refl

pub loop-id-preserved : goal.loop-id-preserved
loop-id-preserved c =
    c.in_ok-insert.ensures
    ∙ (ap (with_id c.in-Some.id.now) c.loop-id.invariant
    ∙ (sym (fold_push (λ vs v. with_id v vs) c.args.self.now (map (λ y. y.now) c.loop-id.yielded) c.in-Some.id.now)
    ∙ ap (fold (λ vs v. with_id v vs) c.args.self.now) (sym (map-append (λ y. y.now) c.loop-id.yielded (c.in-Some.id ∷ [])))))

pub returns : goal.returns
returns c =
    let all = YieldsList-end (YieldsList-from_rev_slice c.args.more.now (cc (c.into_iter-id-iterator.ensures.into_iter_gives, c.rev-id-items.ensures.source, c.iter.ensures.rest)))
    c.loop-id.yielded _ c.loop-id.yielded_by _ _ c.in-None.is c.next.ensures.steps in
    c.loop-id.invariant ∙ (ap (fold (λ vs v. with_id v vs) c.args.self.now) all.0 ∙ united-fold c.args.more.now c.args.self.now)
