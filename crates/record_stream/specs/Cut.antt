-- How the cutting of a line ends.
use Rattle.std.specs.Prelude.{ℕ, ◌≡◌, ◌≢◌, ◌+◌, ◌<◌, ◌≤◌, true, false, List, [], length, drop, slice_index, slice_range}
use Rattle.record_cutting.specs.Lines.{Record}
use Rattle.record_stream.specs.Plain.{cells, is_plain, is_plain_byte}
use Rattle.record_stream.specs.declared.cutter.Cut.{Cut}
use Rattle.record_stream.specs.declared.cutter.Cut.TheVariants as cut

-- a plain line from one place up to its line feed
pub record IsPlainTo (piece : List ℕ) (start end : ℕ) : Type 0 where
  pub low : start ≤ end
  pub high : end < length piece
  pub plain : is_plain (slice_range piece start end) ≡ true
  pub feed : slice_index piece end ≡ 10

-- the first byte from a place on that is not plain is no line feed
pub record IsMarkedAt (piece : List ℕ) (start at : ℕ) : Type 0 where
  pub low : start ≤ at
  pub high : at < length piece
  pub plain : is_plain (slice_range piece start at) ≡ true
  pub other : is_plain_byte (slice_index piece at) ≡ false
  pub inside : slice_index piece at ≢ 10

-- what was cut of the line that begins at a place, where the walk goes on, and how it ended
abbrev pub Cuts : List ℕ → ℕ → ℕ → Record → Cut → Type 0
Cuts piece start next fields (cut.Whole end) = IsPlainTo piece start end × (next ≡ end + 1) × (fields ≡ cells [] (slice_range piece start end))
Cuts piece start next fields cut.Partial = (is_plain (drop start piece) ≡ true) × (fields ≡ cells [] (drop start piece))
Cuts piece start next fields cut.Marked = (at : ℕ) × IsMarkedAt piece start at
