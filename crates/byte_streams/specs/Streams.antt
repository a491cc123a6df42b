-- What reads and writes do to the bytes that a source has left and a sink has taken.
use Rattle.std.specs.Prelude.{ℕ, ◌<◌, ◌≤◌, List, take, length, Result, IfOk, Option}
use Rattle.std.specs.Io.KnownBytes.{Appends}

-- a piece that has bytes is never answered by a count of 0
abbrev pub MovesSome : {E : Type 0} → Result ℕ E → List ℕ → Type 0
MovesSome result piece = IfOk result (λ count. 0 < length piece → 0 < count)

-- known bytes grow by some first bytes of these
abbrev pub AppendsPrefix : Option (List ℕ) → Option (List ℕ) → List ℕ → Type 0
AppendsPrefix old new bytes = (count : ℕ) × (count ≤ length bytes) × Appends old new (take count bytes)
