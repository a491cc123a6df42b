-- When a count of faults says that a fault came.
use Rattle.std.specs.Prelude.{◌≡◌, ℕ, ◌+◌, ◌-◌, ◌^◌, ◌<◌, ◌≤◌, ◌⊎◌, min, Result, Err, OnErr, is_ok, if◌then◌else◌}

-- one more, up to the top of a u64
abbrev pub next : ℕ → ℕ
next n = min (n + 1) (2 ^ 64 - 1)

-- the count is higher than before, or stands at its top
abbrev pub Rose : ℕ → ℕ → Type 0
Rose before now = (before < now) ⊎ (now ≡ 2 ^ 64 - 1)

-- the count does not fall, and an error comes only where it rose
pub record HasCause {T E : Type 0} (before now : ℕ) (result : Result T E) : Type 0 where
  pub later : before ≤ now
  pub failed : OnErr result (Rose before now)

-- the count does not fall, and this error comes only where it rose
pub record HasCauseAt {T E : Type 0} (fault : E) (before now : ℕ) (result : Result T E) : Type 0 where
  pub later : before ≤ now
  pub failed : result ≡ Err fault → Rose before now

-- an error counts as one fault, and nothing else does
abbrev pub CountsErrors : {T E : Type 0} → ℕ → ℕ → Result T E → Type 0
CountsErrors before now result = now ≡ (if is_ok result then before else next before)
