use Rattle.std.proofs.Common.{◌≡◌, rules, tests}
use Rattle.std.proofs.lemmas.Bool.Decides.{Decides-eqb}
use Rattle.std.proofs.lemmas.Slice.Eq.{slice_eq-Decides}
use Rattle.schedule_model.specs.Lines.{hex}
use Rattle.trace_picture.proofs.GivenUp.{client_refused, client_told}
use Rattle.trace_picture.proofs.gaveup.is_client.Goals as goal

pub returns-in_default : goal.returns-in_default
returns-in_default c = client_refused c.args.field.now c.in_default.field-0 (search (rules, tests))

pub returns-then-is_ok : goal.returns-then-is_ok
returns-then-is_ok c =
    let digits = c.encode_to_slice-written.new.output in
    let written : digits ≡ hex c.in-Ok.client.0 = search (rules, tests) in
    client_told c.args.field.now digits c.in-Ok.client c.eq.result (search (rules, tests)) written
    (slice_eq-Decides Decides-eqb c.args.field.now digits c.eq.result (search (rules, tests)))
