-- What the reader of a trace keeps of its first bytes.
use Rattle.std.specs.Prelude.{◌≡◌, ℕ, ◌+◌, ◌<◌, ◌≤◌, ◌==◌, true, slice_index, List, [], length, Result, Ok, Err, ⊤}
use Rattle.std.specs.List.{AllByRecursion}
use Rattle.record_cutting.specs.Lines.{last_part, lines_of, whole_lines}
use Rattle.trace_model.specs.TraceLines.{max_line}
use Rattle.trace_lines.specs.declared.line.LineError.{LineError}
use Rattle.trace_lines.specs.declared.line.LineError.TheVariants as errors
use Rattle.trace_picture.specs.declared.source.Front.{Front}
use Rattle.trace_picture.specs.declared.source.Read.{Read}
use Rattle.trace_picture.specs.declared.source.Read.TheVariants as read
use Rattle.trace_picture.specs.Forms.{AllHaveForms, HasForm, IsFirstBad, IsFirstBadFrom}

-- each whole line of the first bytes has a form, and the rest is kept
pub record IsFront (f : Front) (bytes : List ℕ) : Type 0 where
  pub passed : AllByRecursion HasForm (whole_lines [] bytes)
  pub lines : f.lines ≡ length (whole_lines [] bytes)
  pub pending : f.pending.items ≡ last_part [] bytes
  pub room : length f.pending.items ≤ max_line

-- none of these bytes is a line feed
abbrev pub IsWithinLine : List ℕ → Type 0
IsWithinLine bytes = (k : ℕ) → k < length bytes → (slice_index bytes k == 10) ≡ true → ⊥

-- what is answered to a whole line
abbrev pub IsTold : Result (Unit {0}) LineError → List ℕ → Type 0
IsTold (Ok done) line = HasForm line
IsTold (Err errors.Grammar) line = ¬ HasForm line
IsTold (Err errors.Memory) line = ⊤

-- what is answered to bytes that these first bytes end with
abbrev pub TakesBytes : Result (Unit {0}) LineError → Front → List ℕ → Type 0
TakesBytes (Ok done) f bytes = IsFront f bytes
TakesBytes (Err errors.Grammar) f bytes = IsFirstBadFrom (f.lines + 1) bytes
TakesBytes (Err errors.Memory) f bytes = ⊤

-- what is answered where nothing follows them
abbrev pub Finishes : Read → List ℕ → Type 0
Finishes read.Whole bytes = AllHaveForms bytes
Finishes (read.NoLine n) bytes = IsFirstBad n (lines_of bytes)
Finishes other bytes = ⊥
