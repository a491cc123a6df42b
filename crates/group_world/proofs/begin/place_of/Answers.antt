use Rattle.std.proofs.Common.{◌≡◌, ℕ, ◌<◌, nat_lt, List, length, slice_index_or, sym, ◌∙◌, below_more, arith}
use Rattle.std.proofs.lemmas.Bool.{lt-ltb, le-ltb}
use Rattle.std.proofs.lemmas.List.Sums.{position_or_len_is}
use Rattle.group_world.proofs.begin.place_of.Goals as goal

pub returns-then-id-other : goal.returns-then-id-other
returns-then-id-other c =
    let xs : List ℕ = c.args.ids.now in
    let lt : c.loop-place.place < length xs = c.loop-place-test.true in
    sym (position_or_len_is (λ other. nat_lt c.args.id other) xs c.loop-place.place 0 (omega arith) c.loop-place.invariant
    (λ le. lt-ltb c.args.id (slice_index_or xs c.loop-place.place 0) c.if-id-other.true))

pub loop-place-preserved : goal.loop-place-preserved
loop-place-preserved c =
    below_more _ _ c.loop-place.invariant (le-ltb c.args.id (slice_index_or c.args.ids.now c.loop-place.place 0) c.if-id-other.false)

pub returns : goal.returns
returns c =
    let xs : List ℕ = c.args.ids.now in
    let end : c.loop-place.place ≡ length xs = omega arith in
    sym end ∙ sym (position_or_len_is (λ other. nat_lt c.args.id other) xs c.loop-place.place 0 (omega arith) c.loop-place.invariant (λ le. absurd (omega arith)))
