use Rattle.std.proofs.Common.{arith}
use Rattle.fixed_fields.proofs.Numbers.{counted-short}
use Rattle.fixed_fields.proofs.lists.counted_u32s.Goals as goal

pub returns-then-rest-count : goal.returns-then-rest-count
returns-then-rest-count c = counted-short c.args.bytes.now c.in_ok-count.rest.now c.in_ok-count.count c.in_ok-count.ensures (λ same. c.if-rest-count.true (omega (arith, same)))
