use Rattle.std.proofs.Common.{sym, ap, subst, ◌∙◌, ◌/◌, ◌<◌, ◌≤◌, length, Err}
use Rattle.std.specs.Prelude.{is_ok}
use Rattle.hex.specs.Hex.{decode_of}
use Rattle.values.specs.declared.limits.TheConstants.{MAX_REQUEST}
use Rattle.record_cutting.specs.Lines.{record_of}
use Rattle.schedule_model.specs.Reading as spec
use Rattle.schedule_text.proofs.Requests.{long_request, no_request, short_request}
use Rattle.schedule_text.proofs.field.request_at.Goals as goal
use Rattle.schedule_text.proofs.field.request_at.Goals.{then-is_hexadecimal, else-is_hexadecimal}

pub returns-then-short : goal.returns-then-short
returns-then-short c =
    let fields = record_of c.args.fields.now in
    let text = c.field-text.ensures in
    let short = short_request fields c.args.k (subst (λ t. length t / 2 ≤ MAX_REQUEST) text c.if-short.true) in
    rw (short, ← text) c.hex_of.ensures

pub returns : goal.returns
returns c =
    let fields = record_of c.args.fields.now in
    let text = c.field-text.ensures in
    let long = subst (λ t. MAX_REQUEST < length t / 2) text c.if-short.false in
    let tells = ap (λ t. is_ok (decode_of t)) (sym text) ∙ sym c.is_hexadecimal.ensures in
    elim c.if-is_hexadecimal.branch [
      | then-is_hexadecimal w ↦ long_request fields c.args.k long (tells ∙ w.if-is_hexadecimal.true) ∙ ap (λ x. spec.fault x c.args.k) (sym w.cause-is) ∙ ap Err (sym c.new-2.ensures)
      | else-is_hexadecimal w ↦ no_request fields c.args.k (tells ∙ w.if-is_hexadecimal.false) ∙ ap (λ x. spec.fault x c.args.k) (sym w.cause-is) ∙ ap Err (sym c.new-2.ensures)
    ]
