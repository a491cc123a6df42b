use Rattle.std.proofs.Common.{◌≡◌, ℕ, Result, IfOk, sym, subst}
use Rattle.values.specs.declared.batch.Batch.{Batch}
use Rattle.values.specs.declared.memory.Memory.{Memory}
use Rattle.values.specs.declared.peer.PeerMsg.{PeerMsg}
use Rattle.replica_model.specs.Linked.{sha_link}
use Rattle.replica_model.specs.Replica as model
use Rattle.replica_model.specs.Call as model_call
use Rattle.replica_model.specs.Step.{acts_on, peer_hears, holder_hears}
use Rattle.replica_core.specs.declared.holder.Holder.{Holder}
use Rattle.replica_core.specs.declared.send.Appends.{Appends}
use Rattle.replica_core.specs.Standing.{HoldsFor}
use Rattle.replica_core.specs.Inputs.{IsInput, IsInputInRange}
use Rattle.replica_core.specs.Calling.{Does}
use Rattle.replica_core.proofs.Holding.{unless-learner}
use Rattle.replica_core.proofs.holder.Holder.act.Goals as goal

-- what is done with an input is what is done with an equal one
acts-as : (s : model.Replica) (i j : model_call.Input) (h : Holder) (b : Batch) (r : Result Appends Memory) → i ≡ j
    → IfOk r (λ to. Does h b to (acts_on sha_link s j)) → IfOk r (λ to. Does h b to (acts_on sha_link s i))
acts-as s i j h b r is does = subst (λ k. IfOk r (λ to. Does h b to (acts_on sha_link s k))) (sym is) does

-- a replica that holds a log hears by its own rule
hears-as : (h : Holder) (s : model.Replica) → HoldsFor h s → (from : ℕ) (msg : PeerMsg) (names : model.Named) (after : Holder) (b : Batch) (r : Result Appends Memory)
    → IfOk r (λ to. Does after b to (holder_hears sha_link s from msg))
    → IfOk r (λ to. Does after b to (peer_hears sha_link s s.role from (record { msg = msg; names = names })))
hears-as h s st from msg names after b r does =
    unless-learner s.limit s.first h.role s.role st.role (λ q. IfOk r (λ to. Does after b to (peer_hears sha_link s q from (record { msg = msg; names = names }))))
    does (λ ids. does) (λ m. does)

pub returns-in-Tick-clause-model : goal.returns-in-Tick-clause-model
returns-in-Tick-clause-model c = λ s i st is.
    acts-as s i model_call.Tick c.tick.new.self c.tick.new.batch c.tick.result (subst (λ x. IsInput s x i) c.in-Tick.is is) (c.tick.ensures.model s st)

pub returns-in-Peer-clause-model : goal.returns-in-Peer-clause-model
returns-in-Peer-clause-model c = λ s i st is.
    let named = subst (λ x. IsInput s x i) c.in-Peer.is is in
    acts-as s i (model_call.Peer c.in-Peer.from (record { msg = c.in-Peer.msg; names = named.0 })) c.peer_heard.new.self c.peer_heard.new.batch c.peer_heard.result named.1.1
    (hears-as c.args.self.now s st c.in-Peer.from c.in-Peer.msg named.0 c.peer_heard.new.self c.peer_heard.new.batch c.peer_heard.result (c.peer_heard.ensures.model s st))

pub returns-in-Client-clause-model : goal.returns-in-Client-clause-model
returns-in-Client-clause-model c = λ s i st is.
    acts-as s i (model_call.Client c.in-Client.client c.in-Client.number c.in-Client.request.now) c.client_request.new.self c.client_request.new.batch c.client_request.result
    (subst (λ x. IsInput s x i) c.in-Client.is is) (c.client_request.ensures.model s st)

pub returns-in-Join-clause-model : goal.returns-in-Join-clause-model
returns-in-Join-clause-model c = λ s i st is.
    acts-as s i (model_call.Join c.in-Join.id c.in-Join.linked) c.join.new.self c.join.new.batch c.join.result (subst (λ x. IsInput s x i) c.in-Join.is is) (c.join.ensures.model s st)

pub returns-in-Admit-clause-model : goal.returns-in-Admit-clause-model
returns-in-Admit-clause-model c = λ s i st is.
    acts-as s i (model_call.Admit c.in-Admit.id) c.admit.new.self c.admit.new.batch c.admit.result (subst (λ x. IsInput s x i) c.in-Admit.is is) (c.admit.ensures.model s st)

pub returns-in-Remove-clause-model : goal.returns-in-Remove-clause-model
returns-in-Remove-clause-model c = λ s i st is.
    acts-as s i (model_call.Remove c.in-Remove.id) c.remove.new.self c.remove.new.batch c.remove.result (subst (λ x. IsInput s x i) c.in-Remove.is is) (c.remove.ensures.model s st)

pub returns-in-Margin-clause-model : goal.returns-in-Margin-clause-model
returns-in-Margin-clause-model c = λ s i st is.
    acts-as s i (model_call.Margin c.in-Margin.margin) c.set_margin.new.self c.set_margin.new.batch c.set_margin.result (subst (λ x. IsInput s x i) c.in-Margin.is is) (c.set_margin.ensures.model s st)

pub returns-in-Peer-clause-in_range : goal.returns-in-Peer-clause-in_range
returns-in-Peer-clause-in_range c = c.peer_heard.ensures.in_range (subst IsInputInRange c.in-Peer.is c.requires.range).0

pub returns-in-Join-clause-in_range : goal.returns-in-Join-clause-in_range
returns-in-Join-clause-in_range c = c.join.ensures.in_range (subst IsInputInRange c.in-Join.is c.requires.range)

pub returns-in-Admit-clause-in_range : goal.returns-in-Admit-clause-in_range
returns-in-Admit-clause-in_range c = c.admit.ensures.in_range (subst IsInputInRange c.in-Admit.is c.requires.range)

pub returns-in-Remove-clause-in_range : goal.returns-in-Remove-clause-in_range
returns-in-Remove-clause-in_range c = c.remove.ensures.in_range (subst IsInputInRange c.in-Remove.is c.requires.range)
