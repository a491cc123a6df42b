use Rattle.std.proofs.Common.{◌≡◌, ◌++◌, drop}
use Rattle.schedule_text.specs.Joined.{after_commas}
use Rattle.trace_text.specs.Fields.{texts}
use Rattle.trace_text.proofs.writer.TraceWriter.fields.Given as goal

-- with the fields that follow, all are written
abbrev pub invariant-loop-field : goal.invariant-loop-field
invariant-loop-field l = record {
  front : l.self.front ≡ l.initial.self.front;
  tail : l.self.tail ++ after_commas (texts (drop l.field-index l.fields)) ≡ l.initial.self.tail ++ after_commas (texts l.fields);
}
