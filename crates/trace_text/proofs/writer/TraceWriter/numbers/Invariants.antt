use Rattle.std.proofs.Common.{◌≡◌, ◌++◌, decimal, drop, map}
use Rattle.schedule_text.specs.Joined.{after_commas}
use Rattle.trace_text.proofs.writer.TraceWriter.numbers.Given as goal

-- with the numbers that follow, all are written
abbrev pub invariant-loop-number : goal.invariant-loop-number
invariant-loop-number l = record {
  front : l.self.front ≡ l.initial.self.front;
  tail : l.self.tail ++ after_commas (map decimal (drop l.number-index l.numbers)) ≡ l.initial.self.tail ++ after_commas (map decimal l.numbers);
}
