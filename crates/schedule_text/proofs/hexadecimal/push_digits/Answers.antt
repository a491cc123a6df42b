use Rattle.std.proofs.Common.{rules, arith, ap, ◌∙◌, ◌≡◌, ◌++◌, ◌+◌, ◌*◌, ◌/◌, ◌<◌, ◌≤◌, List, ℕ, [], drop, get_or, length}
use Rattle.std.specs.Prelude.{Result, Ok, Err, OnErr, vec_capacity}
use Rattle.std.specs.declared.alloc.AllocError.{AllocError}
use Rattle.hex.specs.Hex.{encode_lower}
use Rattle.schedule_text.proofs.HexText.{next_block}
use Rattle.schedule_text.proofs.hexadecimal.push_digits.Goals as goal

pub loop-block-preserved : goal.loop-block-preserved
loop-block-preserved c =
    let bytes = c.args.bytes.now in
    let i = c.loop-block.block-index in
    let blocks = c.as_chunks.ensures in
    let block = get_or c.as_chunks.result.0.now i [] in
    let built : c.extend_from_slice.new.self.items ≡ c.loop-block.line.items ++ encode_lower block = search rules in
    record {
      digits = rw built
          (next_block c.loop-block.line.items bytes block _ 8 (length bytes / 8) i (omega (arith, blocks.front_len)) (ap (λ (l : List (List ℕ)). get_or l i []) blocks.front) c.loop-block.invariant.digits);
      room = omega (arith, c.in_ok-extend_from_slice.ensures.len, c.in_ok-extend_from_slice.ensures.capacity, c.loop-block.invariant.room, c.loop-block-test.true, blocks.front_len, c.as_array.ensures);
    }

pub returns-in_err-extend_from_slice-clause-err : goal.returns-in_err-extend_from_slice-clause-err
returns-in_err-extend_from_slice-clause-err c = absurd (omega (arith, c.in_err-extend_from_slice.ensures.full, c.loop-block.invariant.room, c.loop-block-test.true, c.as_chunks.ensures.front_len))

pub returns-clause-ok : goal.returns-clause-ok
returns-clause-ok c =
    let bytes = c.args.bytes.now in
    let line = c.loop-block.line.items in
    let blocks = c.as_chunks.ensures in
    let end : length bytes / 8 * 8 ≡ 8 * c.loop-block.block-index = omega (arith, blocks.front_len) in
    let rest : c.as_chunks.result.1.now ≡ drop (8 * c.loop-block.block-index) bytes = blocks.back ∙ ap (λ k. drop k bytes) end in
    let all : line ++ encode_lower c.as_chunks.result.1.now ≡ c.args.line.now.items ++ encode_lower bytes =
    ap (λ (l : List ℕ). line ++ encode_lower l) rest ∙ c.loop-block.invariant.digits ∙ ap (λ (l : List ℕ). l ++ encode_lower bytes) c.reserve.ensures.items in
    rw all at c.push_short.ensures.ok

pub returns-clause-err : goal.returns-clause-err
returns-clause-err c =
    let room : length c.loop-block.line.items + 2 * length c.as_chunks.result.1.now ≤ vec_capacity c.loop-block.line =
    omega (arith, c.loop-block.invariant.room, c.loop-block-test.false, c.loop-block.auto.block-index-end, c.as_chunks.ensures.front_len, c.as_chunks.ensures.back_len) in
    never_full c.push_short.result _ _ _ room c.push_short.ensures.full
  where
    never_full : (r : Result (Unit {0}) AllocError) (capacity size : ℕ) (P : Type 0) → size ≤ capacity → OnErr r (capacity < size) → OnErr r P
    never_full (Ok u) capacity size P room full = tt
    never_full (Err e) capacity size P room full = absurd (omega (arith, room, full))
