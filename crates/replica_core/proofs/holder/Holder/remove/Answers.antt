use Rattle.std.proofs.Common.{IfOk, sym, subst, ◌∙◌}
use Rattle.member_rules.specs.Refusals.{RefusesOr}
use Rattle.replica_model.specs.Changes as changes
use Rattle.replica_model.specs.Peers.{newest}
use Rattle.replica_core.specs.declared.holder.Holder.{Holder}
use Rattle.replica_core.specs.Calling.{Does}
use Rattle.replica_core.proofs.Changes.{leader-changes, leading-model, leading-stands}
use Rattle.replica_core.proofs.Sends.{leads-is}
use Rattle.values.specs.declared.batch.Refusal.TheVariants.{NotLeader}
use Rattle.std.proofs.lemmas.Result.{IfErr-at_err}
use Rattle.member_rules.specs.InRange.{IsFaultInRange}
use Rattle.replica_core.proofs.Refused.{refuses-in, fault-in}
use Rattle.member_rules.specs.Refusals.{refusal_of}
use Rattle.replica_core.proofs.holder.Holder.remove.Goals as goal

pub returns-in-Ok-clause-model : goal.returns-in-Ok-clause-model
returns-in-Ok-clause-model c = λ s st.
    let h : Holder = c.args.self.now in
    let id = c.args.id in
    let l = leads-is h.role (sym c.leads.ensures ∙ c.if-not-leads.false) in
    let m = leading-model h s st l.0 l.1 in
    let passed = subst (λ r. RefusesOr r (changes.remove_refusal s id) (changes.without_voter (newest s) id)) c.in-Ok.is (c.remove.ensures.model s st.log) in
    subst (λ k. IfOk c.push_members.result (λ to. Does c.push_members.new.self c.push_members.new.batch to k))
    (sym (leader-changes s m.0 (λ x. changes.remove_refusal s id) (λ x. changes.push_members s x (changes.without_voter (newest s) id)) m.1.0 passed.0))
    (subst (λ k. IfOk c.push_members.result (λ to. Does c.push_members.new.self c.push_members.new.batch to (changes.push_members s m.0 k))) passed.1
    (c.push_members.ensures.model s m.0 (leading-stands h s m.0 st m.1.0)))

pub returns-then-not-leads-clause-in_range : goal.returns-then-not-leads-clause-in_range
returns-then-not-leads-clause-in_range c = λ id.
    refuses-in c.args.self.now c.args.batch.now _ _ (NotLeader c.args.self.now.known) tt c.refuse_as_follower.ensures.batch c.refuse_as_follower.ensures.nobody

pub returns-in-Err-clause-in_range : goal.returns-in-Err-clause-in_range
returns-in-Err-clause-in_range c = λ id.
    refuses-in c.args.self.now c.args.batch.now _ _ (refusal_of c.in-Err.fault)
    (fault-in c.in-Err.fault (IfErr-at_err IsFaultInRange c.in-Err.is c.remove.ensures.range))
    c.refuse.ensures.batch c.refuse.ensures.nobody

pub returns-in-Ok-clause-in_range : goal.returns-in-Ok-clause-in_range
returns-in-Ok-clause-in_range c = λ id ranged told. c.push_members.ensures.in_range ranged told
