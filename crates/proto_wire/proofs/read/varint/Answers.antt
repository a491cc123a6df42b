use Rattle.proto_wire.proofs.NumberLemmas.{one_byte}
use Rattle.proto_wire.proofs.read.varint.Goals as goal

pub returns-in-Some-clause-exact : goal.returns-in-Some-clause-exact
returns-in-Some-clause-exact c =
    rw c.from.ensures (one_byte c.args.at _ c.args.bytes.now c.in-Some.ensures.value c.if-byte-lt128.true)
