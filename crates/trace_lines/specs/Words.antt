-- Words of a table.
use Rattle.std.specs.Prelude.{ℕ, List}
use Rattle.std.specs.Borrow.{Bor}
use Rattle.trace_lines.specs.declared.kind.Kind.{Kind}

-- a word with its meaning
abbrev pub named : {T : Type 0} → Bor (List ℕ) × T → List ℕ × T
named (text, meaning) = (text.now, meaning)

-- a word with the kinds of what follows it
abbrev pub row : Bor (List ℕ) × Bor (List Kind) → List ℕ × List Kind
row (text, kinds) = (text.now, kinds.now)
