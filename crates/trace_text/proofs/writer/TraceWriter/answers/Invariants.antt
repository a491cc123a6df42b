use Rattle.std.proofs.Common.{◌≡◌, ◌++◌, drop, map}
use Rattle.std.specs.List.{enumerate_from}
use Rattle.schedule_model.specs.Lines.{answer_line, lines_text}
use Rattle.trace_text.proofs.writer.TraceWriter.answers.Given as goal

-- with the lines that follow, all are written
abbrev pub invariant-loop-place : goal.invariant-loop-place
invariant-loop-place l = record {
  front : l.self.front ≡ l.initial.self.front;
  tail : l.self.tail ++ lines_text (map (answer_line l.replica) (drop l.place (enumerate_from l.first l.items))) ≡ l.initial.self.tail ++ lines_text (map (answer_line l.replica) (enumerate_from l.first l.items));
}
