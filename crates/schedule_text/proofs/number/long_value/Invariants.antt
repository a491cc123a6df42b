use Rattle.std.proofs.Common.{◌≡◌, drop}
use Rattle.schedule_model.specs.Reading.{value_of_digits}
use Rattle.schedule_text.proofs.Digits.{value_from}
use Rattle.schedule_text.proofs.number.long_value.Given as goal

-- the digits so far gave the value, from which the others go on
abbrev pub invariant-loop-digit : goal.invariant-loop-digit
invariant-loop-digit l = value_of_digits l.digits ≡ value_from l.value (drop l.digit-index l.digits)
