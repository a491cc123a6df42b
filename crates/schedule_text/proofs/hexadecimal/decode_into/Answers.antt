use Rattle.std.proofs.Common.{arith, sym, ◌≡◌, ◌+◌, ◌-◌, ◌∙◌, length}
use Rattle.std.proofs.lemmas.Bool.{and_parts}
use Rattle.schedule_text.specs.Decoded.{AreRead}
use Rattle.schedule_text.specs.Values.{all_small}
use Rattle.schedule_text.proofs.Hexadecimals.{decoded, either_broken, read_on}
use Rattle.schedule_text.proofs.hexadecimal.decode_into.Goals as goal

pub returns : goal.returns
returns c =
    let text = c.args.text.now in
    let out = c.decode_block-2.new.out in
    let last = length c.args.out.now - 8 in
    let block = c.decode_block-2.ensures in
    let so_far = c.loop-at.invariant in
    let both = c.are_digits.ensures ∙ c.larger.ensures in
    let end : last + 8 ≡ length out = omega arith in
    decoded c.are_digits.result text out (omega arith)
    (λ e.
    let (before, now) = and_parts (all_small c.loop-at.largest) (all_small c.decode_block-2.result) (sym both ∙ e) in
    let read : AreRead text out 0 (last + 8) = read_on text c.loop-at.out out c.loop-at.at last (last + 8) (omega arith) (so_far.read before) block.kept (block.read now) in
    rw end at read)
    (λ e. either_broken (all_small c.loop-at.largest) (all_small c.decode_block-2.result) so_far.broken block.broken (sym both ∙ e))
