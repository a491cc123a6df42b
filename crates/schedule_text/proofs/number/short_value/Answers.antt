use Rattle.std.proofs.Common.{arith}
use Rattle.schedule_text.proofs.Digits.{room}
use Rattle.schedule_text.proofs.number.short_value.Goals as goal

pub overflow_mul-value : goal.overflow_mul-value
overflow_mul-value c =
    let bound = room c.loop-byte.value c.loop-byte.byte-index c.loop-byte.invariant.small (omega arith) in
    grind (arith, bound)

pub overflow_add-value : goal.overflow_add-value
overflow_add-value c =
    let bound = room c.loop-byte.value c.loop-byte.byte-index c.loop-byte.invariant.small (omega arith) in
    grind (arith, bound)
