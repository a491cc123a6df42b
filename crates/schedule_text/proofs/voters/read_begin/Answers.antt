use Rattle.std.proofs.Common.{refl, ap, sym, ◌∙◌, ℕ, List, length, Ok, Err}
use Rattle.std.specs.Borrow.{Bor}
use Rattle.std.proofs.lemmas.List.{length-map}
use Rattle.std.proofs.lemmas.Result.{err_from_is_err_and}
use Rattle.values.specs.declared.event.Event.TheVariants as event
use Rattle.record_cutting.specs.Lines.{record_of}
use Rattle.schedule_model.specs.Reading.{replicas_from}
use Rattle.schedule_text.proofs.BeginIds.{these}
use Rattle.schedule_text.proofs.Begins.{a_group, no_group}
use Rattle.schedule_text.proofs.voters.read_begin.Goals as goal

pub returns-in-Some : goal.returns-in-Some
returns-in-Some c =
    let fields = record_of c.args.fields.now in
    let texts = c.voter_texts-texts.result.now in
    let (ids, said, size, holds) = c.in_ok-read_ids.ensures in
    let read = ap (replicas_from 4) (sym c.voter_texts-texts.ensures) ∙ said in
    let count = size ∙ length-map texts (λ (f : Bor (List ℕ)). f.now) in
    no_group fields _ _ (sym (rw c.from.ensures at c.in_ok-margin.ensures.value)) (sym c.in_ok-limit.ensures.value) ids read _ (c.in-Some.ensures.fault ids count holds)
    ∙ ap Err (sym c.new.ensures)

pub returns-in_err-voters : goal.returns-in_err-voters
returns-in_err-voters c =
    let fields = record_of c.args.fields.now in
    let texts = c.voter_texts-texts.result.now in
    let (ids, said, size, holds) = c.in_ok-read_ids.ensures in
    let read = ap (replicas_from 4) (sym c.voter_texts-texts.ensures) ∙ said in
    let count = size ∙ length-map texts (λ (f : Bor (List ℕ)). f.now) in
    let group = a_group fields _ _ (sym (rw c.from.ensures at c.in_ok-margin.ensures.value)) (sym c.in_ok-limit.ensures.value) ids read (c.in_default.ensures.fault ids count holds) in
    let p = err_from_is_err_and c.from_residual-in_err-voters.result c.from_residual-in_err-voters.ensures.1 in
    rw (p.1 ∙ ap Err p.2, group) refl

pub returns : goal.returns
returns c =
    let fields = record_of c.args.fields.now in
    let texts = c.voter_texts-texts.result.now in
    let (ids, said, size, holds) = c.in_ok-read_ids.ensures in
    let read = ap (replicas_from 4) (sym c.voter_texts-texts.ensures) ∙ said in
    let count = size ∙ length-map texts (λ (f : Bor (List ℕ)). f.now) in
    let group = a_group fields _ _ (sym (rw c.from.ensures at c.in_ok-margin.ensures.value)) (sym c.in_ok-limit.ensures.value) ids read (c.in_default.ensures.fault ids count holds) in
    let all = these c.read_ids.new.ids ids (length texts) (c.in_default.ensures.few refl) count holds in
    group ∙ ap (λ l. Ok (event.Begin c.in_ok-margin.field-0 c.in_ok-limit.limit l)) (sym (c.from-2.ensures ∙ c.in_ok-voters.ensures.items ∙ all))
