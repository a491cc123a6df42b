use Rattle.std.proofs.Common.{◌≡◌, [], ◌∷◌, OnOk, subst, sym, ◌∙◌, All}
use Rattle.replica_model.specs.Linked.{sha_link}
use Rattle.replica_model.specs.Send.{send_appends}
use Rattle.replica_core.specs.declared.holder.Holder.{Holder}
use Rattle.replica_core.specs.Calling.{Reaches, SendsTo}
use Rattle.replica_core.proofs.Sends.{peers-of}
use Rattle.std.proofs.lemmas.List.Elements.{All-nil, All-cons}
use Rattle.group_quorum.specs.Voters.{IsId}
use Rattle.replica_core.specs.InRange.{IsForId}
use Rattle.replica_core.proofs.Ranged.{peers-ids}
use Rattle.replica_core.proofs.holder.Holder.send_all.Goals as goal

pub returns-in-Nobody-clause-model : goal.returns-in-Nobody-clause-model
returns-in-Nobody-clause-model c = λ call d.
    let none : call.appends ≡ [] = subst (λ a. SendsTo a call) c.in-Nobody.is d.sends in
    subst (λ vs. Reaches c.args.self.now c.args.batch.now (send_appends sha_link call vs)) (sym none)
    (record { stands = d.reaches.stands; batch_is = d.reaches.batch_is })

pub returns-in-One-clause-model : goal.returns-in-One-clause-model
returns-in-One-clause-model c = λ call d.
    let one : call.appends ≡ c.in-One.peer ∷ [] = subst (λ a. SendsTo a call) c.in-One.is d.sends in
    subst (λ vs. OnOk c.send_appends.result (Reaches c.send_appends.new.self c.send_appends.new.batch (send_appends sha_link call vs))) (sym one)
    (c.send_appends.ensures.model call d.reaches)

pub returns-in_ok-peers-in-Everyone-clause-model :
    goal.returns-in_ok-peers-in-Everyone-clause-model
returns-in_ok-peers-in-Everyone-clause-model c = λ call d.
    let h : Holder = c.args.self.now in
    let sends = subst (λ a. SendsTo a call) c.in-Everyone.is d.sends in
    let all : call.appends ≡ c.as_slice.result.now =
    sends.1.1 ∙ (sym (peers-of c.logs_are_the_models.ensures h call.state d.reaches.stands c.in_ok-peers-in-Everyone.ensures.ordered sends.0 sends.1.0) ∙ sym (c.as_slice.ensures ∙ c.in_ok-peers-in-Everyone.ensures.ids)) in
    subst (λ vs. OnOk c.send_appends-in-Everyone.result (Reaches c.send_appends-in-Everyone.new.self c.send_appends-in-Everyone.new.batch (send_appends sha_link call vs))) (sym all)
    (c.send_appends-in-Everyone.ensures.model call d.reaches)

pub returns-in-One-clause-in_range : goal.returns-in-One-clause-in_range
returns-in-One-clause-in_range c = λ to.
    c.send_appends.ensures.in_range (All-cons IsId c.in-One.peer [] (subst IsForId c.in-One.is to) (All-nil IsId))

pub returns-in_ok-peers-in-Everyone-clause-in_range :
    goal.returns-in_ok-peers-in-Everyone-clause-in_range
returns-in_ok-peers-in-Everyone-clause-in_range c = λ to ranged.
    c.send_appends-in-Everyone.ensures.in_range
    (subst (All IsId) (sym (c.as_slice.ensures ∙ c.in_ok-peers-in-Everyone.ensures.ids)) (peers-ids c.args.self.now ranged)) ranged
