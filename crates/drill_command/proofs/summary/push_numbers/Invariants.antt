use Rattle.std.proofs.Common.{◌≡◌, ◌++◌, drop, map}
use Rattle.schedule_model.specs.Lines.{lines_text}
use Rattle.drill_command.specs.Tallies.{named_line}
use Rattle.drill_command.proofs.summary.push_numbers.Given as goal

-- with the lines that follow, all are written
abbrev pub invariant-loop-word : goal.invariant-loop-word
invariant-loop-word l = l.text.items ++ lines_text (map named_line (drop l.word-index l.numbers)) ≡ l.initial.text.items ++ lines_text (map named_line l.numbers)
