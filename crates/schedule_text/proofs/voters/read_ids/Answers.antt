use Rattle.std.proofs.Common.{arith, ap, sym, ◌∙◌, ◌≡◌, ◌+◌, ◌<◌, ℕ, List, [], get_or, length, Ok, Err}
use Rattle.std.specs.Borrow.{Bor}
use Rattle.std.proofs.lemmas.List.{get_or-map, length-map}
use Rattle.std.proofs.lemmas.Result.{err_from_is_err_and}
use Rattle.group_quorum.specs.declared.TheConstants.{MAX_ID}
use Rattle.record_cutting.specs.Lines.{record_of}
use Rattle.schedule_model.specs.Reading.{number_of, value_of_digits}
use Rattle.schedule_text.proofs.BeginIds.{all_read, holds_first, next_kept, next_read, none_more, past_kept, values}
use Rattle.schedule_text.proofs.voters.read_ids.Goals as goal
use Rattle.schedule_text.proofs.voters.read_ids.Goals.{then-place-lt-MAX_VOTERS, else-place-lt-MAX_VOTERS}

pub returns-in_err-id : goal.returns-in_err-id
returns-in_err-id c =
    let texts = record_of c.args.texts.now in
    let i = c.loop-place.place in
    let within : i < length texts = omega (arith, length-map c.args.texts.now (λ (f : Bor (List ℕ)). f.now), c.loop-place-test.true) in
    let text : get_or texts i [] ≡ (get_or c.args.texts.now i (record { ref_ptr = (0, 0); now = [] })).now =
    get_or-map (λ (f : Bor (List ℕ)). f.now) c.args.texts.now i (record { ref_ptr = (0, 0); now = [] }) [] c.loop-place-test.true in
    let is : number_of (get_or texts i []) (i + 4) 1 MAX_ID ≡ Err c.in_err-id.field-0.0 = ap (λ t. number_of t (i + 4) 1 MAX_ID) text ∙ sym (rw c.from.ensures at c.number_of.ensures) ∙ c.in_err-id.was in
    let p = err_from_is_err_and c.from_residual.result c.from_residual.ensures.1 in
    rw (p.1 ∙ ap Err p.2) (none_more texts i _ within c.loop-place.invariant.read is)

pub loop-place-preserved : goal.loop-place-preserved
loop-place-preserved c =
    let texts = record_of c.args.texts.now in
    let i = c.loop-place.place in
    let array = c.loop-place.ids in
    let so_far = c.loop-place.invariant in
    let within : i < length texts = omega (arith, length-map c.args.texts.now (λ (f : Bor (List ℕ)). f.now), c.loop-place-test.true) in
    let text : get_or texts i [] ≡ (get_or c.args.texts.now i (record { ref_ptr = (0, 0); now = [] })).now =
    get_or-map (λ (f : Bor (List ℕ)). f.now) c.args.texts.now i (record { ref_ptr = (0, 0); now = [] }) [] c.loop-place-test.true in
    let is : number_of (get_or texts i []) (i + 4) 1 MAX_ID ≡ Ok c.in_ok-id.id = ap (λ t. number_of t (i + 4) 1 MAX_ID) text ∙ sym (rw c.from.ensures at c.number_of.ensures) ∙ c.in_ok-id.was in
    record {
      read = next_read texts i c.in_ok-id.id within so_far.read is;
      long = c.if-place-lt-MAX_VOTERS.array_long;
      kept = elim c.if-place-lt-MAX_VOTERS.branch [
        | then-place-lt-MAX_VOTERS w ↦ rw w.ids-is (next_kept array texts i (i + 4) c.in_ok-id.id so_far.long w.if-place-lt-MAX_VOTERS.true within is so_far.kept)
        | else-place-lt-MAX_VOTERS w ↦ rw w.ids-is (past_kept array texts i w.if-place-lt-MAX_VOTERS.false so_far.kept)
      ];
    }

pub returns : goal.returns
returns c =
    let texts = record_of c.args.texts.now in
    let i = c.loop-place.place in
    let so_far = c.loop-place.invariant in
    let size = length-map c.args.texts.now (λ (f : Bor (List ℕ)). f.now) in (
      values texts,
      all_read texts i (omega (arith, size, c.loop-place-test.false)) so_far.read,
      length-map texts value_of_digits,
      holds_first c.loop-place.ids texts i so_far.long (omega (arith, size, c.loop-place-test.false)) so_far.kept,
    )
