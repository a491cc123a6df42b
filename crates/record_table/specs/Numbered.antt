-- Slots by numbers.
use Rattle.std.specs.Prelude.{◌≡◌, ℕ, ◌-◌, ◌<◌, ◌≤◌, List, map, length, slice_index}
use Rattle.std.specs.List.{Contains}

-- the numbers of the slots, in the order of the list
abbrev pub numbers_in : List ℕ → List ℕ → List ℕ
numbers_in order numbers = map (λ slot. slice_index numbers slot) order

-- the slot is in the list, and this is its number
abbrev pub IsSlotOf : List ℕ → List ℕ → ℕ → ℕ → Type 0
IsSlotOf order numbers number slot = Contains order slot × (slice_index numbers slot ≡ number)

-- the number is above the one before the place, and below the one at the place
pub record IsBetween (numbers : List ℕ) (number at : ℕ) : Type 0 where
  pub within : at ≤ length numbers
  pub before : 0 < at → slice_index numbers (at - 1) < number
  pub after : at < length numbers → number < slice_index numbers at
