-- Rows in slots, listed by a list of slots.
use Rattle.std.specs.Prelude.{◌≡◌, ℕ, ◌<◌, ◌≤◌, List, [], map, length, slice_index, slice_index_or, None, All}
use Rattle.values.specs.declared.row.Row.{Row}
use Rattle.values.specs.declared.limits.TheConstants.{MOST_ROWS}
use Rattle.record_rules.specs.Clients.{IsNumberOf}
use Rattle.record_rules.specs.Table.{IsRising}

-- what would stand in a slot that is not there
abbrev pub no_row : Row
no_row = record { client = record { 0 = [] }; last = 0; kept = None }

-- the rows of the slots
abbrev pub rows_in : List ℕ → List Row → List Row
rows_in order slots = map (λ slot. slice_index_or slots slot no_row) order

-- each slot is listed and has its client's number, and the rows rise in the order of the list
pub record IsSorted (order numbers : List ℕ) (slots : List Row) : Type 0 where
  pub listed : length order ≡ length slots
  pub within : All (λ slot. slot < length slots) order
  pub few : length order ≤ MOST_ROWS
  pub rising : IsRising (rows_in order slots)
  pub numbered : length numbers ≡ length slots
  pub clients : (slot : ℕ) → slot < length slots → IsNumberOf (slice_index_or slots slot no_row).client (slice_index numbers slot)
