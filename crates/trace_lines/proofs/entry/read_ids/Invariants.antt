use Rattle.std.proofs.Common.{◌≡◌, [], drop}
use Rattle.record_cutting.specs.Lines.{record_of}
use Rattle.trace_lines.specs.Lines.{ids_onto}
use Rattle.trace_lines.proofs.entry.read_ids.Given as goal

-- the ids so far stand before those of the texts that follow
abbrev pub invariant-loop-text : goal.invariant-loop-text
invariant-loop-text l = ids_onto [] (record_of l.texts) ≡ ids_onto l.ids.items (record_of (drop l.text-index l.texts))
