use Rattle.proto_wire.proofs.RoundTrip.{varint_at-varint, groups-shortest}
use Rattle.proto_wire.proofs.laws.varints_are_shortest.Goals as goal

pub returns-clause-again : goal.returns-clause-again
returns-clause-again c = varint_at-varint

pub returns-clause-shortest : goal.returns-clause-shortest
returns-clause-shortest c at n size bytes fits read = groups-shortest at 9 bytes n size fits read
