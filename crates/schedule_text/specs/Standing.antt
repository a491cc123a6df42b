-- Where the reading of a schedule stands.
use Rattle.std.specs.Prelude.{ℕ, ◌+◌, Bool, true, false, ◌||◌, Option, Some}
use Rattle.values.specs.declared.event.Event.{Event}
use Rattle.values.specs.declared.event.Event.TheVariants as event

-- whether clients are driven, whether the begin record was read, and how many records were
pub record Standing : Type 0 where
  pub driven : Bool
  pub begun : Bool
  pub records : ℕ

-- before the first record
abbrev pub start : Bool → Standing
start driven = record { driven = driven; begun = false; records = 0 }

-- where the group has begun before the first record
abbrev pub in_group : Standing
in_group = record (start false) { begun = true }

abbrev pub begins : Option Event → Bool
begins (Some (event.Begin margin limit voters)) = true
begins other = false

-- after a record that is this event, or a remark
abbrev pub past : Standing → Option Event → Standing
past s e = record s { begun = s.begun || begins e; records = s.records + 1 }
