use Rattle.std.proofs.Common.{arith, ◌+◌, ◌-◌, ◌*◌, ◌≤◌, ◌∙◌, ◌^◌, get_or, drop}
use Rattle.schedule_model.specs.Reading.{value_of_digits}
use Rattle.schedule_text.proofs.Digits.{least, next}
use Rattle.schedule_text.proofs.number.long_value.Goals as goal

pub returns-in_err-checked_mul : goal.returns-in_err-checked_mul
returns-in_err-checked_mul c =
    let digits = c.args.digits.now in
    let i = c.loop-digit.digit-index in
    let more = least (10 * c.loop-digit.value + (get_or digits i 0 - 48)) (drop (i + 1) digits) in
    let is = c.loop-digit.invariant ∙ next c.loop-digit.value digits i (omega arith) in
    let large : 2 ^ 64 ≤ value_of_digits digits = omega (arith, more, is, c.in_err-checked_mul.ensures) in
    rw c.from_residual.ensures large

pub returns-in_err-value : goal.returns-in_err-value
returns-in_err-value c =
    let digits = c.args.digits.now in
    let i = c.loop-digit.digit-index in
    let more = least (10 * c.loop-digit.value + (get_or digits i 0 - 48)) (drop (i + 1) digits) in
    let is = c.loop-digit.invariant ∙ next c.loop-digit.value digits i (omega arith) in
    let large : 2 ^ 64 ≤ value_of_digits digits = grind (arith, more, is) in
    rw c.from_residual-in_err-value.ensures large
