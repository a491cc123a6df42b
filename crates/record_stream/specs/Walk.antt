-- A walk over bytes, 64 at a time.
use Rattle.std.specs.Prelude.{ℕ, ◌≡◌, ◌+◌, ◌^◌, ◌<◌, ◌≤◌, ◌||◌, nat_lt, nat_le, if◌then◌else◌, Bool, List, length}
use Rattle.std.specs.Int.{bit_at}
use Rattle.memchr.specs.Find.{Nowhere, Passes}
use Rattle.record_stream.specs.Plain.{is_marked}

-- a byte up to the comma or from 128 on, as all are that mean something
abbrev pub may_mean : ℕ → Bool
may_mean b = nat_lt b 45 || nat_le 128 b

abbrev pub bit_of : Bool → ℕ
bit_of b = if b then 1 else 0

-- from a place on, no byte before `base` means anything; of the 64 from there on those may whose bits are set
pub record IsWalk (piece : List ℕ) (from base marks : ℕ) : Type 0 where
  pub within : from ≤ length piece
  pub based : base ≤ length piece
  pub near : from ≤ base + 64
  pub fits : marks < 2 ^ 64
  pub passed : Nowhere (Passes is_marked piece) from base
  pub clear : (k : ℕ) → k < 64 → from ≤ base + k → base + k < length piece → bit_at marks k ≡ 0 → ¬ Passes is_marked piece (base + k)
  pub low : (k : ℕ) → bit_at marks k ≡ 1 → from ≤ base + k
  pub high : (k : ℕ) → bit_at marks k ≡ 1 → base + k < length piece
