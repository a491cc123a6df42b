use Rattle.std.proofs.Common.{IfOk, sym, subst}
use Rattle.replica_core.specs.declared.input.Input.TheVariants as input
use Rattle.replica_core.specs.declared.learner.Learner.{Learner}
use Rattle.replica_core.specs.Inputs.{IsInput}
use Rattle.replica_core.specs.Learning.{LearnsOrHolds}
use Rattle.replica_core.proofs.Learns.{hears-part}
use Rattle.replica_core.specs.Inputs.{IsInputInRange}
use Rattle.replica_core.specs.Ranges.{IsStepBatch}
use Rattle.replica_core.proofs.Handed.{unled-in}
use Rattle.replica_core.proofs.learner.Learner.step.Goals as goal

pub returns-in-Part-clause-model : goal.returns-in-Part-clause-model
returns-in-Part-clause-model c = λ s i st given.
    let l : Learner = c.args.self.now in
    let heard : IsInput s (input.Peer c.in-Peer.from c.in-Peer.msg) i = subst (λ x. IsInput s x i) c.in-Peer.is given in
    let p = hears-part l s st i c.in-Peer.from c.in-Part.term c.in-Part.part (subst (λ msg. IsInput s (input.Peer c.in-Peer.from msg) i) c.in-Part.is heard) in
    subst (λ k. IfOk c.part_heard.result (λ found. LearnsOrHolds c.part_heard.new.self found c.part_heard.new.batch k)) (sym p.call)
    (c.part_heard.ensures.model s st.taking p.names st.same st.parts p.true_part p.goes_on)

pub returns-in-Part-clause-in_range : goal.returns-in-Part-clause-in_range
returns-in-Part-clause-in_range c =
    let given : IsInputInRange (input.Peer c.in-Peer.from c.in-Peer.msg) = subst IsInputInRange c.in-Peer.is c.requires.range in
    c.part_heard.ensures.in_range given.0

pub returns-in_ok-ask_heard-in-Client-clause-in_range : goal.returns-in_ok-ask_heard-in-Client-clause-in_range
returns-in_ok-ask_heard-in-Client-clause-in_range c = λ ranged told.
    (ranged, (tt, subst IsStepBatch (sym c.in_ok-ask_heard-in-Client.ensures) (unled-in c.args.batch.now _ _ _ told)))
