use Rattle.replica_core.proofs.holder.Holder.end_call.Goals as goal

pub returns-clause-model : goal.returns-clause-model
returns-clause-model c = λ call does.
    let sent = c.in_ok-send_all.ensures.model call does in
    record { stands = c.move_base.ensures.model _ (c.step_down.ensures.model _ sent.stands); batch_is = sent.batch_is }

pub returns-clause-in_range : goal.returns-clause-in_range
returns-clause-in_range c = λ to ranged b.
    let sent = c.in_ok-send_all.ensures.in_range to ranged b in
    (c.move_base.ensures.in_range (c.step_down.ensures.in_range sent.0), sent.1)
