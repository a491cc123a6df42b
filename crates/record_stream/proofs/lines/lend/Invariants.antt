use Rattle.std.proofs.Common.{◌≡◌, take}
use Rattle.csv.specs.Records.{fields_of}
use Rattle.record_cutting.specs.Lines.{record_of}
use Rattle.record_stream.proofs.lines.lend.Given as goal

-- the first fields are lent
abbrev pub invariant-loop-field : goal.invariant-loop-field
invariant-loop-field l = record {
  row : l.field-iterator.row.now ≡ l.fn.row;
  so_far : record_of l.fields.items ≡ take l.field-iterator.at (fields_of l.fn.row);
}
