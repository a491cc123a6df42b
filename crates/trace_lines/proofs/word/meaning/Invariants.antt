use Rattle.std.proofs.Common.{◌≡◌, map, drop}
use Rattle.schedule_model.specs.Records.{meaning}
use Rattle.trace_lines.specs.Words.{named}
use Rattle.trace_lines.proofs.word.meaning.Given as goal

-- the text has its meaning among those that follow
abbrev pub invariant-loop-name : goal.invariant-loop-name
invariant-loop-name g l = meaning l.text (map named l.words) ≡ meaning l.text (map named (drop l.name-index l.words))
