use Rattle.std.proofs.Common.{◌≡◌, map, drop}
use Rattle.schedule_model.specs.Records.{meaning}
use Rattle.schedule_text.specs.Words.{entry}
use Rattle.schedule_text.proofs.word.meaning.Given as goal

-- the text has its meaning among those that follow
abbrev pub invariant-loop-name : goal.invariant-loop-name
invariant-loop-name l = meaning l.text (map entry l.words) ≡ meaning l.text (map entry (drop l.name-index l.words))
