use Rattle.std.proofs.Common.{◌≡◌, ◌∙◌, sym, ap, subst, rules, Some, Ok, Err}
use Rattle.std.specs.Prelude.{OnOk}
use Rattle.values.specs.declared.batch.Batch.{Batch}
use Rattle.values.specs.declared.batch.Refusal.{Refusal}
use Rattle.attested_link.specs.Links.{is_linked}
use Rattle.replica_model.specs.Call.{empty_batch}
use Rattle.enclave_host.specs.Handing.{heard, IsNamedIn}
use Rattle.enclave_host.specs.Standing.{Becomes}
use Rattle.enclave_host.proofs.Taking.{accepted-at, id-is}
use Rattle.enclave_host.proofs.running.Running.hear.Goals as goal

pub returns-in-Ok-clause-model : goal.returns-in-Ok-clause-model
returns-in-Ok-clause-model c = λ e names runs named.
    let some : c.id.result ≡ Some c.unwrap-me.result = search rules in
    let mine = id-is c.id.result c.unwrap-me.result e.replica.me some (c.id.ensures.model e.replica runs.replica) in
    let accepted = accepted-at e (is_linked c.args.self.now.links) c.unwrap-me.result c.args.frame.now (Ok (c.in-Ok.from, c.in-Ok.message.now)) runs.links mine c.in-Ok.ensures.exact in
    subst (λ a. OnOk c.hear_from.result (Becomes c.hear_from.new.self c.hear_from.new.batch (heard names e a))) (sym accepted)
    (c.hear_from.ensures.model e names runs (subst (IsNamedIn names e.replica.role) accepted named))

pub returns-in-Err-clause-model : goal.returns-in-Err-clause-model
returns-in-Err-clause-model c = λ e names runs named.
    let r = c.args.self.now in
    let b = record c.args.batch.now { refused = Some c.link_refusal.result } in
    let some : c.id.result ≡ Some c.unwrap-me.result = search rules in
    let mine = id-is c.id.result c.unwrap-me.result e.replica.me some (c.id.ensures.model e.replica runs.replica) in
    let accepted = accepted-at e (is_linked r.links) c.unwrap-me.result c.args.frame.now (Err c.in-Err.fault) runs.links mine c.in-Err.ensures.exact in
    let told = ap (λ (x : Batch). record x { refused = Some c.link_refusal.result }) c.requires.empty
    ∙ ap (λ (f : Refusal). record empty_batch { refused = Some f }) c.link_refusal.ensures in
    subst (λ a. Becomes r b (heard names e a)) (sym accepted) (runs, told)
