use Rattle.std.proofs.lemmas.List.{places}
use Rattle.std.proofs.Common.{rules, arith, sym, ap, ◌∙◌, ◌≡◌, ◌+◌, ◌-◌, ◌≤◌, ◌++◌, List, ℕ, length, take, drop}
use borrow.Rule.Slice.PartMut.{put_mid}
use Rattle.std.specs.Simd.Lanes.{put_chunk}
use Rattle.std.proofs.lemmas.Simd.{put_chunk_is}
use Rattle.schedule_text.specs.Values.{bytes_of}
use Rattle.schedule_text.proofs.Hexadecimals.{block_broken, block_long, block_read, length_bytes_of}
use Rattle.schedule_text.proofs.hexadecimal.decode_block.Goals as goal

-- what stands after a write of a part
stored : (at n : ℕ) (xs ys : List ℕ) → at + length ys ≤ length xs → length ys ≡ n → put_mid at n xs ys ≡ put_chunk at xs ys
stored at n xs ys room size = ap (λ k. take at xs ++ (ys ++ drop k (drop at xs))) (sym size) ∙ sym (put_chunk_is at xs ys room)

pub returns-clause-read : goal.returns-clause-read
returns-clause-read c =
    let at = c.args.at in
    let out = c.args.out.now in
    let values = c.digit_values-values.result in
    let room = c.requires.room in
    let after = c.copy_from_slice.ensures.after ∙ c.joined.ensures in
    let size = length_bytes_of values 8 (block_long c.args.text.now out values at c.requires.size room c.digit_values-values.ensures) in
    let is : put_mid at (at + 8 - at) out c.copy_from_slice.new.self ≡ put_chunk at out (bytes_of values) =
    ap (λ (l : List ℕ). put_mid at (at + 8 - at) out l) after ∙ stored at (at + 8 - at) out (bytes_of values) (omega (arith, size)) (omega (arith, size)) in
    rw is (block_read c.args.text.now out values at c.requires.size room c.digit_values-values.ensures)

pub returns-clause-kept : goal.returns-clause-kept
returns-clause-kept c i early = search (rules, places)

pub returns-clause-broken : goal.returns-clause-broken
returns-clause-broken c =
    block_broken c.args.text.now c.args.out.now c.digit_values-values.result c.args.at c.requires.size c.requires.room c.digit_values-values.ensures
