use Rattle.std.proofs.Common.{◌≡◌, ℕ, ◌<◌, nat_lt, List, length, slice_index_or, sym, ◌∙◌, ap, below_more, arith}
use Rattle.std.proofs.lemmas.Bool.{lt-ltb, le-ltb}
use Rattle.std.proofs.lemmas.List.Sums.{position_or_len_is}
use Rattle.std.specs.List.{position_or_len}
use Rattle.replica_core.proofs.rising.RisingIds.place_of.Goals as goal

pub returns-then-other-id : goal.returns-then-other-id
returns-then-other-id c =
    let xs : List ℕ = c.as_slice-other-items.result.now in
    let lt : c.loop-place.place < length xs = c.loop-place-test.true in
    sym (position_or_len_is (λ other. nat_lt c.args.id other) xs c.loop-place.place 0 (omega arith) c.loop-place.invariant
    (λ le. lt-ltb c.args.id (slice_index_or xs c.loop-place.place 0) c.if-other-id.true))
    ∙ ap (position_or_len (λ other. nat_lt c.args.id other)) (c.as_slice-other-items.ensures.value ∙ c.self.view_is)

pub loop-place-preserved : goal.loop-place-preserved
loop-place-preserved c =
    below_more _ _ c.loop-place.invariant (le-ltb c.args.id (slice_index_or c.as_slice-other-items.result.now c.loop-place.place 0) c.if-other-id.false)

pub returns : goal.returns
returns c =
    let xs : List ℕ = c.as_slice-other-items.result.now in
    let end : c.loop-place.place ≡ length xs = omega arith in
    let size : c.len.result ≡ length xs = c.len.ensures ∙ sym c.as_slice-other-items.ensures.len in
    size ∙ (sym end ∙ (sym (position_or_len_is (λ other. nat_lt c.args.id other) xs c.loop-place.place 0 (omega arith) c.loop-place.invariant (λ le. absurd (omega arith)))
    ∙ ap (position_or_len (λ other. nat_lt c.args.id other)) (c.as_slice-other-items.ensures.value ∙ c.self.view_is)))
