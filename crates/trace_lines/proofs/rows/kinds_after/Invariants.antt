use Rattle.std.proofs.Common.{◌≡◌, map, drop}
use Rattle.schedule_model.specs.Records.{meaning}
use Rattle.trace_lines.specs.Words.{row}
use Rattle.trace_lines.proofs.rows.kinds_after.Given as goal

-- the word has its kinds among the rows that follow
abbrev pub invariant-loop-name : goal.invariant-loop-name
invariant-loop-name l = meaning l.word (map row l.rows) ≡ meaning l.word (map row (drop l.name-index l.rows))
