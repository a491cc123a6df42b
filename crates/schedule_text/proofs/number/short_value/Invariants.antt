use Rattle.std.proofs.Common.{◌≡◌, ◌<◌, ◌^◌, drop}
use Rattle.std.specs.Char.{is_ascii_digit}
use Rattle.std.specs.List.{list_all}
use Rattle.schedule_model.specs.Reading.{value_of_digits}
use Rattle.schedule_text.proofs.Digits.{value_from}
use Rattle.schedule_text.proofs.number.short_value.Given as goal

-- the bytes so far are digits that gave the value, from which the others go on
abbrev pub invariant-loop-byte : goal.invariant-loop-byte
invariant-loop-byte l = record {
  digits : list_all is_ascii_digit l.text ≡ list_all is_ascii_digit (drop l.byte-index l.text);
  value : value_of_digits l.text ≡ value_from l.value (drop l.byte-index l.text);
  small : l.value < 10 ^ l.byte-index;
}
