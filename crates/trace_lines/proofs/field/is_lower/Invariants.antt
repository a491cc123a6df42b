use Rattle.std.proofs.Common.{◌≡◌, ◌&&◌, not, drop}
use Rattle.trace_lines.specs.Fields.{is_lower}
use Rattle.trace_lines.proofs.field.is_lower.Given as goal

-- the bytes that follow decide, where none before was a capital
abbrev pub invariant-loop-byte : goal.invariant-loop-byte
invariant-loop-byte l = is_lower l.text ≡ (not l.capital && is_lower (drop l.byte-index l.text))
