-- Texts of short schedules.
use Rattle.std.proofs.Common.{◌≡◌, refl}
use Rattle.std.specs.Prelude.{codes}
use Rattle.std.specs.Fmt.{digits}
use Rattle.csv.proofs.OnLiterals.{csv_on_literals}
use Rattle.hex.proofs.OnLiterals.{hex_on_literals}
use Rattle.proto_wire.specs.Fields.{payload_field, field_at, sequence_behind}
use Rattle.proto_wire.specs.Varint.{groups, number_in}
use Rattle.record_cutting.specs.Lines.{whole_lines, last_part, line_records}
use Rattle.schedule_model.specs.Lines.{line_text}
use Rattle.schedule_model.specs.Written.{all_written}
use Rattle.table_model.specs.TableText.{table_text}

-- what texts are read and written with
unfoldable reading : Unit {0}
unfolding digits csv_on_literals hex_on_literals payload_field field_at sequence_behind groups number_in whole_lines last_part line_records line_text all_written
reading = tt

-- the records have no remarks, and the end is the number of rows
table : table_text 1 (codes "00000000000000000000000000000001,1,2200\n#\n") ≡ codes "1,done,1a00\nstopped,schedule,2,fields,0\n"
unfolding reading
table = refl

rows : table_text 1 (codes "00000000000000000000000000000001,1,\n") ≡ codes "1,invalid,nothing,0\nrows,0\n"
unfolding reading
rows = refl
