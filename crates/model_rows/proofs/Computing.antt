-- What the definitions compute with.
use Rattle.std.specs.Fmt.{digits}
use Rattle.csv.proofs.OnLiterals.{csv_on_literals}
use Rattle.hex.proofs.OnLiterals.{hex_on_literals}
use Rattle.proto_wire.specs.Fields.{payload_field, field_at, sequence_behind}
use Rattle.proto_wire.specs.Varint.{groups, number_in}
use Rattle.record_cutting.specs.Lines.{whole_lines, last_part, line_records}
use Rattle.schedule_model.specs.Lines.{line_text}
use Rattle.schedule_model.specs.Written.{all_written}

-- named on an `unfolding` line it opens all of these
unfoldable pub computing : Unit {0}
unfolding digits csv_on_literals hex_on_literals payload_field field_at sequence_behind groups number_in whole_lines last_part line_records line_text all_written
computing = tt
