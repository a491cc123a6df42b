use Rattle.std.proofs.Common.{◌≡◌, ◌++◌, take, vec_len}
use Rattle.proto_wire.specs.Varint.{varint}
use Rattle.proto_wire.proofs.write.push_varint.Given as goal

-- what is written and what is left to write make the varint, behind what stood there before
abbrev pub invariant-loop-rest : goal.invariant-loop-rest
invariant-loop-rest l = record {
  whole : l.out.items ++ varint l.rest ≡ l.fn.out.items ++ varint l.value;
  front : take (vec_len l.fn.out) l.out.items ≡ l.fn.out.items;
}

abbrev pub decreases-loop-rest : goal.decreases-loop-rest
decreases-loop-rest l = l.rest
