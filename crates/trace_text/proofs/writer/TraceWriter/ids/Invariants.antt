use Rattle.std.proofs.Common.{◌≡◌, ◌++◌, decimal, drop, map}
use Rattle.schedule_text.specs.Joined.{after_commas}
use Rattle.trace_text.proofs.writer.TraceWriter.ids.Given as goal

-- with the ids that follow, all are written
abbrev pub invariant-loop-id : goal.invariant-loop-id
invariant-loop-id l = record {
  front : l.self.front ≡ l.initial.self.front;
  tail : l.self.tail ++ after_commas (map decimal (drop l.id-index l.ids)) ≡ l.initial.self.tail ++ after_commas (map decimal l.ids);
}
