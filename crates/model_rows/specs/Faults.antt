-- What a record reads as, and its fault.
use Rattle.std.specs.Prelude.{◌≡◌, ℕ, Bool, true, false, List, [], ◌∷◌, codes, slice_index_or, Option, Some, None, Result, Ok, Err}
use Prim.Native.String.{String}
use Rattle.values.specs.declared.event.Cause.{Cause}
use Rattle.values.specs.declared.event.Event.{Event}
use Rattle.record_cutting.specs.Lines.{Record, records_of}
use Rattle.schedule_model.specs.Reading.{RecordFault}
use Rattle.schedule_model.specs.Records.{event_of}

-- the first record of bytes, in a schedule that is driven or not, where the group has begun or not
abbrev pub read : Bool → Bool → List ℕ → Result (Option Event) RecordFault
read driven begun bytes = event_of driven begun (slice_index_or (records_of bytes) 0 [])

-- the record has this fault, where the group has begun or not
abbrev pub Faulty : Bool → String → Cause → ℕ → Type 0
Faulty begun text cause field = read false begun (codes text) ≡ Err (record { cause = cause; field = field })

-- it is this event, in a driven schedule or another
abbrev pub Says : Bool → String → Event → Type 0
Says driven text e = read driven true (codes text) ≡ Ok (Some e)

-- the same after a byte order mark
abbrev pub SaysMarked : String → Event → Type 0
SaysMarked text e = read false true (0xEF ∷ 0xBB ∷ 0xBF ∷ codes text) ≡ Ok (Some e)

-- it is a remark
abbrev pub IsRemark : String → Type 0
IsRemark text = read false false (codes text) ≡ Ok None

-- a text has these records
abbrev pub Holds : String → List Record → Type 0
Holds text records = records_of (codes text) ≡ records
