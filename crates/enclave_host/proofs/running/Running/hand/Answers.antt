use Rattle.std.proofs.Common.{◌≡◌, sym, ap, subst}
use Rattle.host_inputs.specs.Inputs.{input_of}
use Rattle.trace_model.specs.Session.{Frames}
use Rattle.enclave_host.specs.Handing.{handed, IsNamedFor}
use Rattle.enclave_host.specs.Standing.{Becomes}
use Rattle.enclave_host.specs.Words.{content_in}
use Rattle.enclave_host.proofs.running.Running.hand.Goals as goal

pub returns-in_ok-hear-in-Peer-clause-model : goal.returns-in_ok-hear-in-Peer-clause-model
returns-in_ok-hear-in-Peer-clause-model c = λ e names runs named.
    let said : content_in (input_of c.args.input.now) ≡ Frames c.in-Peer.frame.now = ap (λ i. content_in (input_of i)) c.in-Peer.is in
    subst (λ x. Becomes c.hear.new.self c.hear.new.batch (handed names e x)) (sym said)
    (c.in_ok-hear-in-Peer.ensures.model e names runs (subst (IsNamedFor names e) said named))
