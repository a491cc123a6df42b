-- A count that rose in a part of a call rose in the call.
use Rattle.std.proofs.Common.{arith, ℕ, ◌≤◌, Result, Ok, Err}
use Rattle.byte_streams.specs.Causes.{Rose, HasCause, HasCauseAt}

-- what rose in the first part rose in the whole
pub Rose-then : (a b c : ℕ) → a ≤ b → b ≤ c → Rose a b → Rose a c
Rose-then a b c h k rose = grind arith

-- what rose in the last part rose in the whole
pub Rose-after : (a b c : ℕ) → a ≤ b → Rose b c → Rose a c
Rose-after a b c h rose = grind arith

-- an error of the last part has its cause in the whole
pub HasCause-after : {T E : Type 0} (a b c : ℕ) (r : Result T E) → a ≤ b → HasCause b c r → HasCause a c r
HasCause-after a b c (Ok x) h p = let later = p.later in record { later = omega arith; failed = tt }
HasCause-after a b c (Err e) h p = let later = p.later in record { later = omega arith; failed = Rose-after a b c h p.failed }

-- and the same of one error
pub HasCauseAt-after : {T E : Type 0} (fault : E) (a b c : ℕ) (r : Result T E) → a ≤ b → HasCauseAt fault b c r → HasCauseAt fault a c r
HasCauseAt-after fault a b c r h p = let later = p.later in record { later = omega arith; failed = λ e. Rose-after a b c h (p.failed e) }
