-- How the drawing of a source ends.
use Rattle.std.specs.Prelude.{ℕ, ◌≤◌, ◌<◌, ◌⊎◌, List, length, take, Option, ⊤}
use Rattle.std.specs.Io.KnownBytes.{IsAtEnd}
use Rattle.record_cutting.specs.Lines.{lines_of}
use Rattle.trace_audit.specs.declared.source.TheConstants.{MAX_TRACE}
use Rattle.trace_picture.specs.declared.source.Drawn.{Drawn}
use Rattle.trace_picture.specs.declared.source.Drawn.TheVariants as drawn
use Rattle.trace_picture.specs.declared.source.Read.{Read}
use Rattle.trace_picture.specs.declared.source.Read.TheVariants as read
use Rattle.trace_picture.specs.Forms.{AllHaveForms, IsFirstBad, IsFirstBadFrom}

-- all was read, and each line has a form
pub record IsWhole (taken : List ℕ) (left : Option (List ℕ)) : Type 0 where
  pub ended : IsAtEnd left
  pub room : length taken ≤ MAX_TRACE
  pub lines : AllHaveForms taken

-- the line of this number is the first without a form: whatever follows, or where nothing follows
abbrev pub IsNoLine : ℕ → List ℕ → Option (List ℕ) → Type 0
IsNoLine n taken left = IsFirstBadFrom n (take MAX_TRACE taken) ⊎ (IsAtEnd left × (length taken ≤ MAX_TRACE) × IsFirstBad n (lines_of taken))

-- how the reading of a source ended of which these bytes were taken, with what it has left
abbrev pub ReadsAfter : List ℕ → Option (List ℕ) → Read → Type 0
ReadsAfter taken left read.Whole = IsWhole taken left
ReadsAfter taken left (read.NoLine n) = IsNoLine n taken left
ReadsAfter taken left read.Limit = MAX_TRACE < length taken
ReadsAfter taken left other = ⊤

-- and the drawing
abbrev pub EndsAfter : List ℕ → Option (List ℕ) → Drawn → Type 0
EndsAfter taken left (drawn.Picture text) = IsWhole taken left
EndsAfter taken left (drawn.NoLine n) = IsNoLine n taken left
EndsAfter taken left drawn.Limit = MAX_TRACE < length taken
EndsAfter taken left other = ⊤
