use Rattle.proto_wire.proofs.FieldTrip.{field_at-varint, field_at-message}
use Rattle.proto_wire.proofs.laws.written_fields_are_read.Goals as goal

pub returns-clause-numbers : goal.returns-clause-numbers
returns-clause-numbers c = field_at-varint

pub returns-clause-messages : goal.returns-clause-messages
returns-clause-messages c = field_at-message
