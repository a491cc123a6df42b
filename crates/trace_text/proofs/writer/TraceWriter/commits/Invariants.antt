use Rattle.std.proofs.Common.{◌≡◌, ◌++◌, drop, map}
use Rattle.schedule_model.specs.Lines.{commit_line, lines_text}
use Rattle.trace_text.proofs.writer.TraceWriter.commits.Given as goal

-- with the lines that follow, all are written
abbrev pub invariant-loop-index : goal.invariant-loop-index
invariant-loop-index l = record {
  front : l.self.front ≡ l.initial.self.front;
  tail : l.self.tail ++ lines_text (map (commit_line l.replica) (drop l.index-index l.items)) ≡ l.initial.self.tail ++ lines_text (map (commit_line l.replica) l.items);
}
