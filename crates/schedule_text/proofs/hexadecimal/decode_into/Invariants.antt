use Rattle.std.proofs.Common.{◌≡◌, ◌+◌, ◌-◌, ◌≤◌, true, false}
use Rattle.std.specs.Prelude.{IsErr}
use Rattle.hex.specs.Hex.{decode_pairs}
use Rattle.schedule_text.specs.Decoded.{AreRead}
use Rattle.schedule_text.specs.Values.{all_small}
use Rattle.schedule_text.proofs.hexadecimal.decode_into.Given as goal

-- the blocks so far were read, or one of the bytes is no digit
abbrev pub invariant-loop-at : goal.invariant-loop-at
invariant-loop-at l = record {
  near : l.at ≤ l.last + 8;
  read : all_small l.largest ≡ true → AreRead l.text l.out 0 l.at;
  broken : all_small l.largest ≡ false → IsErr (decode_pairs 0 l.text);
}

abbrev pub decreases-loop-at : goal.decreases-loop-at
decreases-loop-at l = l.last + 8 - l.at
