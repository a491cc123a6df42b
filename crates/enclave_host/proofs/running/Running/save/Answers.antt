use Rattle.std.proofs.Common.{◌≡◌, ◌<◌, ◌∙◌, ◌++◌, ◌∷◌, [], ap, refl, rules, length, Some, arith}
use Rattle.values.specs.declared.batch.Batch.{Batch}
use Rattle.values.specs.declared.batch.Refusal.TheVariants.{NoState}
use Rattle.replica_core.specs.declared.replica.State.{State}
use Rattle.enclave_host.proofs.States.{full-is, saved-as, not-saved}
use Rattle.enclave_host.proofs.running.Running.save.Goals as goal

pub returns-in_default-clause-model : goal.returns-in_default-clause-model
returns-in_default-clause-model c = λ e runs.
    let r = c.args.self.now in
    let b = record c.args.batch.now { refused = Some (NoState 4294967295) } in
    let count : c.len.result ≡ length c.args.self.now.saved.items = search rules in
    not-saved r b e runs (full-is c.len.result (length r.saved.items) count c.in_default.ensures c.requires.sound.few)
    (ap (λ (b : Batch). record b { refused = Some (NoState 4294967295) }) c.requires.empty)

pub returns-clause-model : goal.returns-clause-model
returns-clause-model c = λ e runs.
    let r = c.args.self.now in
    let b = record c.args.batch.now { saved = Some c.in-Ok.number } in
    let count : c.in-Ok.number ≡ length c.args.self.now.saved.items = search rules in
    let low : c.in-Ok.number < 4294967296 = search rules in
    saved-as r (record r { saved = c.push.new.self }) b e runs refl c.in-Ok.number count (omega (arith, count, c.requires.sound.some)) (omega (arith, low)) refl
    (c.in_ok-push.ensures.items ∙ ap (λ (s : State). r.saved.items ++ s ∷ []) c.in_ok-state.ensures)
    (ap (λ (b : Batch). record b { saved = Some c.in-Ok.number }) c.requires.empty)
