use Rattle.std.proofs.Common.{◌∙◌, sym, refl}
use Rattle.std.specs.Prelude.{OnOk}
use Rattle.replica_model.specs.Call as model_call
use Rattle.enclave_host.specs.Standing.{Becomes}
use Rattle.enclave_host.proofs.Taking.{taken-as, named-as}
use Rattle.enclave_host.proofs.running.Running.hear_from.Goals as goal

pub returns-in-Ok-clause-model : goal.returns-in-Ok-clause-model
returns-in-Ok-clause-model c = λ e names runs named.
    let from = c.args.from in
    let bytes = c.args.message.now in
    let msg = c.in-Ok.msg in
    let is = c.in-Ok.ensures.exact in
    taken-as e names from bytes msg (λ w. OnOk c.step.result (Becomes c.step.new.self c.step.new.batch w)) (sym (runs.links from) ∙ c.requires.linked) is
    (c.step.ensures.model e (model_call.Peer from (record { msg = msg; names = names })) runs (names, (named-as names e.replica.role from bytes msg is named, refl)))
