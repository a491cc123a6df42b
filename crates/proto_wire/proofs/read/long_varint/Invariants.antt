use Rattle.std.proofs.Common.{◌≡◌, ◌-◌, ◌*◌, ◌^◌, ◌<◌, ◌≤◌, drop}
use Rattle.proto_wire.specs.Varint.{number_in, varint_at}
use Rattle.proto_wire.proofs.NumberLemmas.{with_low}
use Rattle.proto_wire.proofs.read.long_varint.Given as goal

-- what was read is the low part of the number, and the rest is still to come
abbrev pub invariant-loop-i : goal.invariant-loop-i
invariant-loop-i l = record {
  few : l.i ≤ 9;
  low : l.value < 2 ^ (7 * l.i);
  whole : with_low l.value (2 ^ (7 * l.i)) l.i (number_in l.at (9 - l.i) (drop l.i l.bytes)) ≡ varint_at l.at l.bytes;
}
