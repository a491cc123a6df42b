use Rattle.std.proofs.Common.{ℕ, List, IfOk, sym, subst, ◌∙◌, arith, All}
use Rattle.replica_log.specs.Window.{base_index, last_index}
use Rattle.replica_model.specs.Linked.{sha_link}
use Rattle.replica_model.specs.Ticks.{tick}
use Rattle.replica_core.specs.declared.role.Leading.{Leading}
use Rattle.replica_core.specs.declared.holder.Holder.{Holder}
use Rattle.replica_core.specs.Keeping.{IsSoundRole, IsSound}
use Rattle.replica_core.specs.Sending.{all_fallen_back}
use Rattle.replica_core.specs.Calling.{Does}
use Rattle.replica_core.proofs.Again.{ticks}
use Rattle.replica_core.proofs.Hears.{holder-leads}
use Rattle.replica_core.proofs.Holding.{unless-leader}
use Rattle.replica_core.proofs.Sends.{leads-is}
use Rattle.replica_core.proofs.Sounds.{fallen-within, led-sound}
use Rattle.group_quorum.specs.Voters.{IsId}
use Rattle.replica_core.proofs.Ranged.{peers-ids}
use Rattle.replica_core.proofs.holder.Holder.tick.Goals as goal

pub returns-then-not-leads-clause-model : goal.returns-then-not-leads-clause-model
returns-then-not-leads-clause-model c = λ s st.
    let h : Holder = c.args.self.now in
    unless-leader s.limit s.first h.role s.role st.role (sym c.leads.ensures ∙ c.if-not-leads.true)
    (λ r. IfOk c.stand.result (λ to. Does c.stand.new.self c.stand.new.batch to (tick sha_link s r)))
    (c.stand.ensures.model s st) (λ ids. c.stand.ensures.model s st)

pub returns-clause-model : goal.returns-clause-model
returns-clause-model c = λ s st.
    let h : Holder = c.args.self.now in
    let l = leads-is h.role (sym c.leads.ensures ∙ c.if-not-leads.false) in
    ticks c.logs_are_the_models.ensures h s st c.in_ok-peers.ensures.ordered l.0 l.1 c.args.batch.now c.requires.empty c.as_slice.result.now c.send_again.new.self c.send_again.new.batch
    (c.as_slice.ensures ∙ c.in_ok-peers.ensures.ids) c.in_ok-send_again.ensures.after (λ m leads. c.in_ok-send_again.ensures.model s m st leads)

pub returns-clause-sound : goal.returns-clause-sound
returns-clause-sound c =
    let h : Holder = c.args.self.now in
    let l = leads-is h.role (sym c.leads.ensures ∙ c.if-not-leads.false) in
    let k : Leading = l.0 in
    let vs : List ℕ = c.as_slice.result.now in
    let o = c.in_ok-peers.ensures.ordered in
    let a = o.committed in
    let b = o.promised in
    let d = o.last in
    let leads = subst (IsSoundRole (last_index h.log)) l.1 c.requires.sound.role in
    subst IsSound (sym (c.in_ok-send_again.ensures.after ∙ holder-leads h (λ (x : Leading). record x { progress = all_fallen_back (base_index h.log) x.sendings x.progress vs }) k l.1))
    (led-sound h (record k { progress = all_fallen_back (base_index h.log) k.sendings k.progress vs }) c.requires.sound
    (record {
      progress = fallen-within (last_index h.log) (base_index h.log) k.sendings k.progress vs (omega (arith, a, b, d)) leads.progress;
      learners = leads.learners;
      sendings = leads.sendings;
    }))

pub returns-clause-in_range : goal.returns-clause-in_range
returns-clause-in_range c = λ ranged b.
    let ids = subst (All IsId) (sym (c.as_slice.ensures ∙ c.in_ok-peers.ensures.ids)) (peers-ids c.args.self.now ranged) in
    let again = c.in_ok-send_again.ensures.in_range ids ranged b in
    (again.0, (again.1, tt))
