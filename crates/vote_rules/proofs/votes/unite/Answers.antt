use Rattle.std.proofs.Common.{rules, fold, ap, ◌∙◌}
use Rattle.std.proofs.lemmas.Iterator.Consumers.{YieldsList-end}
use Rattle.std.proofs.lemmas.Iterator.Adapters.{YieldsList-from_rev_slice}
use Rattle.replica_model.specs.Peers.{with_id}
use Rattle.replica_model.proofs.United.{united-fold}
use Rattle.vote_rules.proofs.votes.unite.Goals as goal

pub returns : goal.returns
returns c =
    let all =
    YieldsList-end (YieldsList-from_rev_slice c.args.more.now (search rules))
    c.loop-id.yielded _ c.loop-id.yielded_by _ _ c.in-None.is c.next.ensures.steps in
    c.loop-id.invariant.so_far
    ∙ (ap (fold (λ vs v. with_id v vs) c.args.ids.now.items) all.0 ∙ united-fold c.args.more.now c.args.ids.now.items)
