use Rattle.std.proofs.Common.{◌≡◌, ◌*◌, length, arith}
use Rattle.fixed_fields.proofs.Numbers.{length-numbers_in}
use Rattle.fixed_fields.proofs.lists.short_u32s.Goals.{then-bytes-count-via-then-bytes-count, then-bytes-count-via-else-bytes-count+then-count-gt-MAX_COUNT}
use Rattle.fixed_fields.proofs.lists.short_u32s.Goals as goal

pub returns-then-bytes-count-clause-none : goal.returns-then-bytes-count-clause-none
returns-then-bytes-count-clause-none c numbers e =
    let long : length c.args.bytes.now ≡ 4 * length numbers = length-numbers_in c.args.bytes.now numbers e in
    elim c.then-bytes-count.branch [
      | then-bytes-count-via-then-bytes-count w ↦ absurd (w.if-bytes-count.true (omega (arith, long)))
      | then-bytes-count-via-else-bytes-count+then-count-gt-MAX_COUNT w ↦ omega (arith, long)
    ]
