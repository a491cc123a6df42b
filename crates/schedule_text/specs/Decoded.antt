-- Hexadecimal that is read whatever its digits are.
use Rattle.std.specs.Prelude.{ℕ, ◌≡◌, ◌+◌, ◌*◌, ◌<◌, ◌≤◌, Bool, true, false, List, slice_index, Result, Ok, IsErr}
use Rattle.hex.specs.declared.error.FromHexError.{FromHexError}
use Rattle.schedule_text.specs.Values.{digit_or_16}

-- byte i of `out` is that of the digits at 2 * i and 2 * i + 1
pub record IsRead (text out : List ℕ) (i : ℕ) : Type 0 where
  pub high : digit_or_16 (slice_index text (2 * i)) < 16
  pub low : digit_or_16 (slice_index text (2 * i + 1)) < 16
  pub byte : slice_index out i ≡ 16 * digit_or_16 (slice_index text (2 * i)) + digit_or_16 (slice_index text (2 * i + 1))

-- the bytes from `start` up to `end` are read
abbrev pub AreRead : (text out : List ℕ) (start end : ℕ) → Type 0
AreRead text out start end = (i : ℕ) → start ≤ i → i < end → IsRead text out i

-- the bytes before `at` stay
abbrev pub IsKept : (old new : List ℕ) (at : ℕ) → Type 0
IsKept old new at = (i : ℕ) → i < at → slice_index new i ≡ slice_index old i

-- whether a text is hexadecimal, with its bytes where it is
abbrev pub Decodes : Bool → List ℕ → Result (List ℕ) FromHexError → Type 0
Decodes true bytes said = said ≡ Ok bytes
Decodes false bytes said = IsErr said
