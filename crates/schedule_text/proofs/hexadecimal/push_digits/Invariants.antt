use Rattle.std.proofs.Common.{◌≡◌, ◌≤◌, ◌+◌, ◌-◌, ◌*◌, ◌++◌, drop, length}
use Rattle.std.specs.Prelude.{vec_capacity}
use Rattle.hex.specs.Hex.{encode_lower}
use Rattle.schedule_text.proofs.hexadecimal.push_digits.Given as goal

-- the digits so far, and those of the rest, for which the room is taken
abbrev pub invariant-loop-block : goal.invariant-loop-block
invariant-loop-block l = record {
  digits : l.line.items ++ encode_lower (drop (8 * l.block-index) l.bytes) ≡ l.initial.line.items ++ encode_lower l.bytes;
  room : length l.line.items + 2 * (length l.bytes - 8 * l.block-index) ≤ vec_capacity l.line;
}
