use Rattle.std.proofs.Common.{◌≡◌, true, false}
use Rattle.std.specs.Prelude.{IsErr}
use Rattle.hex.specs.Hex.{decode_pairs}
use Rattle.schedule_text.specs.Decoded.{AreRead}
use Rattle.schedule_text.proofs.hexadecimal.decode_each.Given as goal

-- the bytes so far were read, or one of the digits is none
abbrev pub invariant-loop-i : goal.invariant-loop-i
invariant-loop-i l = record {
  read : l.whole ≡ true → AreRead l.text l.out 0 l.i;
  broken : l.whole ≡ false → IsErr (decode_pairs 0 l.text);
}
