use Rattle.std.proofs.Common.{subst, sym, arith}
use Rattle.values.specs.declared.peer.PeerMsg.TheVariants.{Rejected}
use Rattle.replica_core.specs.declared.holder.Holder.{Holder}
use Rattle.replica_core.specs.Ranges.{IsStepBatch}
use Rattle.replica_core.proofs.Ranged.{sent-in}
use Rattle.replica_core.proofs.holder.Holder.stale_append.Goals as goal

pub returns-clause-in_range : goal.returns-clause-in_range
returns-clause-in_range c = λ id asked ranged told.
    let h : Holder = c.args.self.now in
    let a = c.promised.ensures.ordered.last in
    let b = c.promised.ensures.ordered.top in
    let at = c.promised.ensures.promised in (
      ranged,
      (
        subst (λ xs. IsStepBatch (record (c.args.batch.now) { sent = xs })) (sym c.in_ok-push.ensures.ok)
            (sent-in c.args.batch.now told c.args.from (Rejected h.ballot.term c.args.asked c.promised.result) id (c.requires.sound.term, (asked, omega (arith, a, b, at)))),
        tt,
      ),
    )
