use Rattle.std.proofs.Common.{◌≡◌, ◌<◌, ◌≤◌, ap, refl, rules, length, get_or, Some}
use Rattle.std.proofs.lemmas.Option.{slice_get_past, slice_get_read}
use Rattle.values.specs.declared.batch.Batch.{Batch}
use Rattle.values.specs.declared.batch.Refusal.TheVariants.{NoState}
use Rattle.enclave_host.proofs.States.{rolled, not-rolled}
use Rattle.enclave_host.proofs.running.Running.roll.Goals as goal

pub returns-in_ok-self-in-Some-clause-model : goal.returns-in_ok-self-in-Some-clause-model
returns-in_ok-self-in-Some-clause-model c = λ e runs.
    let r = c.args.self.now in
    let put = c.in_ok-self-in-Some.field-0 in
    let inside : c.args.k < length c.args.self.now.saved.items = search rules in
    let at : c.in_ok-self-in-Some.field-0 ≡ get_or c.args.self.now.saved.items c.args.k c.in_ok-self-in-Some.field-0 = search rules in
    rolled r (record r { replica = put }) c.args.batch.now e runs refl c.args.k (slice_get_read r.saved.items (length r.saved.items) c.args.k put refl inside at) refl
    c.requires.empty

pub returns-in-None-clause-model : goal.returns-in-None-clause-model
returns-in-None-clause-model c = λ e runs.
    let r = c.args.self.now in
    let past : length c.args.self.now.saved.items ≤ c.args.k = search rules in
    not-rolled r (record c.args.batch.now { refused = Some (NoState c.args.k) }) e runs c.args.k (slice_get_past r.saved.items c.args.k past)
    (ap (λ (b : Batch). record b { refused = Some (NoState c.args.k) }) c.requires.empty)
