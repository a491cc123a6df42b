use Rattle.std.proofs.Common.{◌≡◌, ◌++◌, map, length}
use Rattle.trace_lines.specs.Lines.{cut}
use Rattle.trace_lines.proofs.read.cut.Given as goal

-- the fields so far stand before those of the rest
abbrev pub invariant-loop-field : goal.invariant-loop-field
invariant-loop-field l = cut l.line ≡ map (λ field. field.now) l.fields.items ++ cut l.rest

abbrev pub decreases-loop-field : goal.decreases-loop-field
decreases-loop-field l = length l.rest
