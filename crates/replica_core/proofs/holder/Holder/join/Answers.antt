use Rattle.std.proofs.Common.{◌≡◌, ℕ, ◌+◌, ◌<◌, length, take, sym, ap, subst, ◌∙◌, arith}
use Rattle.values.specs.declared.batch.Batch.{Batch}
use Rattle.values.specs.declared.peer.PeerMsg.TheVariants.{Part}
use Rattle.member_rules.specs.Standings.{standing_of}
use Rattle.member_rules.specs.Refusals.{refusal_of, Refuses}
use Rattle.replica_model.specs.declared.TheConstants.{MAX_LEARNERS}
use Rattle.replica_model.specs.Call.{still, send_to}
use Rattle.replica_model.specs.Changes as changes
use Rattle.replica_model.specs.Linked.{sha_link}
use Rattle.replica_model.specs.Peers.{leads_with}
use Rattle.replica_model.specs.Tables.{part_message, named_by}
use Rattle.replica_core.specs.declared.role.Leading.{Leading}
use Rattle.replica_core.specs.declared.holder.Holder.{Holder}
use Rattle.replica_core.specs.declared.send.Appends.TheVariants.{Nobody}
use Rattle.replica_core.specs.Calling.{Does}
use Rattle.replica_core.proofs.Changes.{leader-refuses, leader-changes, leading-model, join-few, joined-sound, joined-does}
use Rattle.group_msgs.specs.Ranges.{IsIndex}
use Rattle.replica_core.specs.InRange.{IsHolderInRange}
use Rattle.replica_core.specs.Ranges.{IsStepBatch}
use Rattle.replica_core.proofs.Ranged.{sent-in, part-in}
use Rattle.replica_core.specs.Leads.{with_learner}
use Rattle.replica_core.proofs.Handed.{with_learner-in}
use Rattle.replica_core.proofs.Noted.{leading-in}
use Rattle.values.specs.declared.batch.Refusal.TheVariants.{NotLeader}
use Rattle.std.proofs.lemmas.Result.{IfErr-at_err}
use Rattle.member_rules.specs.InRange.{IsFaultInRange}
use Rattle.replica_core.proofs.Refused.{refuses-in, fault-in}
use Rattle.replica_core.proofs.holder.Holder.join.Goals as goal

pub returns-in-Err-clause-model : goal.returns-in-Err-clause-model
returns-in-Err-clause-model c = λ s st.
    let h : Holder = c.args.self.now in
    let id : ℕ = c.args.id in
    let m = leading-model h s st c.in-Leader.leading c.in-Leader.is in
    let rule : Refuses c.join.result (changes.join_refusal s m.0 id c.args.linked) =
    c.join.ensures.model s st.log m.0 (ap length (sym m.1.1.learners) ∙ sym c.len.ensures) in
    let refused = subst (λ r. Refuses r (changes.join_refusal s m.0 id c.args.linked)) c.in-Err.is rule in
    subst (λ t. Does h c.refuse.new.batch t (changes.at_leader s s.role (λ x. changes.join sha_link s x id c.args.linked))) (sym c.refuse.ensures.nobody)
    (subst (λ b. Does h b Nobody (changes.at_leader s s.role (λ x. changes.join sha_link s x id c.args.linked))) (sym c.refuse.ensures.batch)
    (leader-refuses h c.args.batch.now s st c.requires.empty m.0 (λ x. changes.join_refusal s x id c.args.linked)
    (λ x. send_to (still (leads_with s (changes.joined s x id))) id (part_message sha_link s (record { path = take s.committed s.path; part = 0 })))
    (refusal_of c.in-Err.fault) m.1.0 refused))

pub returns-clause-model : goal.returns-clause-model
returns-clause-model c = λ s st.
    let h : Holder = c.args.self.now in
    let b : Batch = c.args.batch.now in
    let id : ℕ = c.args.id in
    let l : Leading = c.in-Leader.leading in
    let m = leading-model h s st l c.in-Leader.is in
    let path = take s.committed s.path in
    let rule : Refuses c.join.result (changes.join_refusal s m.0 id c.args.linked) =
    c.join.ensures.model s st.log m.0 (ap length (sym m.1.1.learners) ∙ sym c.len.ensures) in
    let passed = subst (λ r. Refuses r (changes.join_refusal s m.0 id c.args.linked)) c.in_default-join.is rule in
    let sends = c.in_ok-sending.ensures.model s st in
    let next : ℕ = c.committed-next.result + 1 in
    let term : ℕ = c.take_learner.new.self.ballot.term in
    let joins = joined-does h l c.in-Leader.is id next c.in_ok-sending.sending c.take_learner.new.self c.in_ok-take_learner.ensures s m.0 st m.1.1
    (ap (λ n. n + 1) (c.committed-next.ensures.model s st.log)) sends b c.requires.empty
    term (ap (λ (g : Holder). g.ballot.term) c.in_ok-take_learner.ensures ∙ st.term) c.in_ok-part.part
    (c.in_ok-part.ensures.of_path sha_link (named_by s path) sends.of_path) (ap (λ p. p.part) c.in_ok-part.ensures.outstanding) in
    subst (Does c.take_learner.new.self (record b { sent = c.push.new.self }) Nobody)
    (sym (leader-changes s m.0 (λ x. changes.join_refusal s x id c.args.linked)
    (λ x. send_to (still (leads_with s (changes.joined s x id))) id (part_message sha_link s (record { path = path; part = 0 }))) m.1.0 passed))
    (subst (λ xs. Does c.take_learner.new.self (record b { sent = xs }) Nobody
    (send_to (still (leads_with s (changes.joined s m.0 id))) id (part_message sha_link s (record { path = path; part = 0 }))))
    (sym c.in_ok-push.ensures.ok) joins)

pub returns-clause-sound : goal.returns-clause-sound
returns-clause-sound c =
    let h : Holder = c.args.self.now in
    let l : Leading = c.in-Leader.leading in
    let o = c.committed-next.ensures.ordered in
    let a = o.promised in
    let b = o.last in
    let at = c.committed-next.ensures.committed in
    let point = c.in_ok-sending.ensures.committed in
    let few : c.len.result < MAX_LEARNERS =
    join-few (standing_of h.log) c.args.id c.args.linked c.len.result c.in_default-join.field-0 (sym c.join.ensures.faults ∙ c.in_default-join.is) in
    let long : c.len.result ≡ length l.learners = c.len.ensures in
    joined-sound h l c.in-Leader.is c.args.id (c.committed-next.result + 1) c.in_ok-sending.sending c.take_learner.new.self c.in_ok-take_learner.ensures c.requires.sound
    (omega (arith, few, long)) (omega (arith, at, a, b)) (omega (arith, point, a, b))

pub returns-in_default-clause-in_range : goal.returns-in_default-clause-in_range
returns-in_default-clause-in_range c = λ id.
    refuses-in c.args.self.now c.args.batch.now _ _ (NotLeader c.args.self.now.known) tt c.refuse_as_follower.ensures.batch c.refuse_as_follower.ensures.nobody

pub returns-in-Err-clause-in_range : goal.returns-in-Err-clause-in_range
returns-in-Err-clause-in_range c = λ id.
    refuses-in c.args.self.now c.args.batch.now _ _ (refusal_of c.in-Err.fault)
    (fault-in c.in-Err.fault (IfErr-at_err IsFaultInRange c.in-Err.is c.join.ensures.range))
    c.refuse.ensures.batch c.refuse.ensures.nobody

pub returns-clause-in_range : goal.returns-clause-in_range
returns-clause-in_range c = λ id ranged told.
    let h : Holder = c.args.self.now in
    let kept = c.in_ok-sending.sending in
    let sending = c.in_ok-sending.ensures.in_range ranged in
    let next : ℕ = c.committed-next.result + 1 in
    let term = subst (λ (g : Holder). IsIndex g.ballot.term) (sym c.in_ok-take_learner.ensures) c.requires.sound.term in (
      subst IsHolderInRange (sym c.in_ok-take_learner.ensures)
          (leading-in h (λ l. with_learner l c.args.id next kept) ranged (λ l r. with_learner-in l c.args.id next kept r id sending)),
      (
        subst (λ xs. IsStepBatch (record (c.args.batch.now) { sent = xs })) (sym c.in_ok-push.ensures.ok)
            (sent-in c.args.batch.now told c.args.id (Part c.take_learner.new.self.ballot.term c.in_ok-part.part) id
            (term, part-in kept c.in_ok-part.part c.in_ok-part.ensures.outstanding sending c.in_ok-part.ensures.takable c.in_ok-part.ensures.sized)),
        tt,
      ),
    )
