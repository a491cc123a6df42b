use Rattle.std.proofs.Common.{◌<◌, ◌≤◌, IfOk, sym, ap, subst, ◌∙◌}
use Rattle.values.specs.declared.limits.TheConstants.{TOP}
use Rattle.member_rules.specs.Standings.{standing_of}
use Rattle.member_rules.specs.Refusals.{refusal_of, RefusesOr}
use Rattle.replica_model.specs.Changes as changes
use Rattle.replica_model.specs.Peers.{newest, others}
use Rattle.replica_model.specs.Replica as model
use Rattle.replica_log.specs.Window.{last_index}
use Rattle.replica_core.specs.declared.holder.Holder.{Holder}
use Rattle.replica_core.specs.declared.send.Appends.TheVariants.{Nobody}
use Rattle.replica_core.specs.Calling.{Does}
use Rattle.replica_core.specs.Keeping.{leads_now, IsSound}
use Rattle.replica_core.specs.Standing.{HoldsFor}
use Rattle.replica_core.proofs.Changes.{follower-refuses, leader-refuses, leader-changes, leading-model, mark-as, dropped-stands, dropped-sound, dropped-leads, admit-room}
use Rattle.replica_core.proofs.Sends.{leads-is}
use Rattle.replica_core.specs.InRange.{IsHolderInRange}
use Rattle.replica_core.proofs.Handed.{dropped-learner-in}
use Rattle.replica_core.proofs.Noted.{leading-in}
use Rattle.values.specs.declared.batch.Refusal.TheVariants.{NotLeader}
use Rattle.std.proofs.lemmas.Result.{IfErr-at_err}
use Rattle.member_rules.specs.InRange.{IsFaultInRange}
use Rattle.replica_core.proofs.Refused.{refuses-in, fault-in, mark-in}
use Rattle.replica_core.proofs.holder.Holder.admit.Goals as goal

pub returns-then-not-leads-clause-model : goal.returns-then-not-leads-clause-model
returns-then-not-leads-clause-model c = λ s st.
    let h : Holder = c.args.self.now in
    subst (λ t. Does h c.refuse_as_follower.new.batch t (changes.at_leader s s.role (λ l. changes.admit s l c.args.id))) (sym c.refuse_as_follower.ensures.nobody)
    (subst (λ b. Does h b Nobody (changes.at_leader s s.role (λ l. changes.admit s l c.args.id))) (sym c.refuse_as_follower.ensures.batch)
    (follower-refuses h c.args.batch.now s st c.requires.empty (λ l. changes.admit s l c.args.id) (sym c.leads.ensures ∙ c.if-not-leads.true)))

pub push_members-requires-clause-sound : goal.push_members-requires-clause-sound
push_members-requires-clause-sound c =
    let l = leads-is c.args.self.now.role (sym c.leads.ensures ∙ c.if-not-leads.false) in
    subst IsSound (sym c.drop_learner.ensures) (dropped-sound c.args.self.now l.0 c.args.id l.1 c.requires.sound)

pub push_members-requires-clause-leads : goal.push_members-requires-clause-leads
push_members-requires-clause-leads c =
    let l = leads-is c.args.self.now.role (sym c.leads.ensures ∙ c.if-not-leads.false) in
    ap (λ (h : Holder). leads_now h.role) c.drop_learner.ensures ∙ dropped-leads c.args.self.now l.0 c.args.id l.1

pub push_members-requires-clause-room : goal.push_members-requires-clause-room
push_members-requires-clause-room c =
    let h : Holder = c.args.self.now in
    subst (λ (g : Holder). last_index g.log < TOP) (sym c.drop_learner.ensures)
    (admit-room (standing_of h.log) c.args.id c.learner_mark.result c.in-Ok.config (sym c.admit.ensures.faults ∙ c.in-Ok.is) c.requires.sound.last)

pub returns-in-Ok-clause-model : goal.returns-in-Ok-clause-model
returns-in-Ok-clause-model c = λ s st.
    let h : Holder = c.args.self.now in
    let id = c.args.id in
    let l = leads-is h.role (sym c.leads.ensures ∙ c.if-not-leads.false) in
    let m = leading-model h s st l.0 l.1 in
    let rule : RefusesOr c.admit.result (changes.admit_refusal s m.0 id) (changes.with_voter (newest s) id) =
    c.admit.ensures.model s st.log m.0 (mark-as h s st l.0 m.0 id l.1 m.1.1 ∙ sym c.learner_mark.ensures) in
    let passed = subst (λ r. RefusesOr r (changes.admit_refusal s m.0 id) (changes.with_voter (newest s) id)) c.in-Ok.is rule in
    let m' : model.Leading = record (m.0) { learners = others id m.0.learners } in
    let pushed = c.push_members.ensures.model s m' (subst (λ g. HoldsFor g (record s { role = model.Leader m' })) (sym c.drop_learner.ensures)
    (dropped-stands h s l.0 m.0 id st l.1 m.1.1)) in
    subst (λ k. IfOk c.push_members.result (λ to. Does c.push_members.new.self c.push_members.new.batch to k))
    (sym (leader-changes s m.0 (λ x. changes.admit_refusal s x id)
    (λ x. changes.push_members s (record x { learners = others id x.learners }) (changes.with_voter (newest s) id)) m.1.0 passed.0))
    (subst (λ k. IfOk c.push_members.result (λ to. Does c.push_members.new.self c.push_members.new.batch to (changes.push_members s m' k))) passed.1 pushed)

pub returns-in-Err-clause-model : goal.returns-in-Err-clause-model
returns-in-Err-clause-model c = λ s st.
    let h : Holder = c.args.self.now in
    let id = c.args.id in
    let l = leads-is h.role (sym c.leads.ensures ∙ c.if-not-leads.false) in
    let m = leading-model h s st l.0 l.1 in
    let rule : RefusesOr c.admit.result (changes.admit_refusal s m.0 id) (changes.with_voter (newest s) id) =
    c.admit.ensures.model s st.log m.0 (mark-as h s st l.0 m.0 id l.1 m.1.1 ∙ sym c.learner_mark.ensures) in
    let refused = subst (λ r. RefusesOr r (changes.admit_refusal s m.0 id) (changes.with_voter (newest s) id)) c.in-Err.is rule in
    subst (λ t. Does h c.refuse.new.batch t (changes.at_leader s s.role (λ x. changes.admit s x id))) (sym c.refuse.ensures.nobody)
    (subst (λ b. Does h b Nobody (changes.at_leader s s.role (λ x. changes.admit s x id))) (sym c.refuse.ensures.batch)
    (leader-refuses h c.args.batch.now s st c.requires.empty m.0 (λ x. changes.admit_refusal s x id)
    (λ x. changes.push_members s (record x { learners = others id x.learners }) (changes.with_voter (newest s) id)) (refusal_of c.in-Err.fault) m.1.0 refused))

pub returns-then-not-leads-clause-in_range : goal.returns-then-not-leads-clause-in_range
returns-then-not-leads-clause-in_range c = λ id.
    refuses-in c.args.self.now c.args.batch.now _ _ (NotLeader c.args.self.now.known) tt c.refuse_as_follower.ensures.batch c.refuse_as_follower.ensures.nobody

pub returns-in-Err-clause-in_range : goal.returns-in-Err-clause-in_range
returns-in-Err-clause-in_range c = λ id.
    refuses-in c.args.self.now c.args.batch.now _ _ (refusal_of c.in-Err.fault)
    (fault-in c.in-Err.fault (IfErr-at_err IsFaultInRange c.in-Err.is (c.admit.ensures.range (subst (λ n. n ≤ TOP) (sym c.learner_mark.ensures) (mark-in c.args.self.now c.args.id c.requires.sound)))))
    c.refuse.ensures.batch c.refuse.ensures.nobody

pub returns-in-Ok-clause-in_range : goal.returns-in-Ok-clause-in_range
returns-in-Ok-clause-in_range c = λ id ranged told.
    c.push_members.ensures.in_range
    (subst IsHolderInRange (sym c.drop_learner.ensures)
    (leading-in c.args.self.now (λ l. record l { learners = others c.args.id l.learners }) ranged (λ l r. dropped-learner-in l c.args.id r))) told
