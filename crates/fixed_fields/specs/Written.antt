-- What a writer has: the bytes that it was begun behind, and what it has written.
use Rattle.std.specs.Prelude.{◌≡◌, ℕ, ◌+◌, ◌-◌, List, ◌++◌, length, take, drop, Result, OnOk}
use Rattle.std.specs.Int.{w32}
use Rattle.fixed_fields.specs.Fields.{number_bytes}

pub record Written : Type 0 where
  pub front : List ℕ
  pub tail : List ℕ

-- the bytes are written behind what was; after an error some of them may be. The bytes in front stay
pub record Puts {T E : Type 0} (result : Result T E) (old new : Written) (bytes : List ℕ) : Type 0 where
  pub front : new.front ≡ old.front
  pub ok : OnOk result (new.tail ≡ old.tail ++ bytes)

-- the length of what stands behind the four bytes at a place is written into them
abbrev pub closed : (place : ℕ) → List ℕ → List ℕ
closed place tail = take place tail ++ (number_bytes w32 (length tail - (place + 4)) ++ drop (place + 4) tail)
