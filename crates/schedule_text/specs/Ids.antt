-- The voters of a begin record, of which so many are kept as there may be.
use Rattle.std.specs.Prelude.{ℕ, ◌≡◌, List, length, take, Result, Ok, Err}
use Rattle.group_quorum.specs.declared.TheConstants.{MAX_VOTERS}
use Rattle.schedule_model.specs.Reading.{RecordFault, replicas_from}

-- an array that begins with the first of these ids
abbrev pub HoldsFirst : List ℕ → List ℕ → Type 0
HoldsFirst array ids = take (length ids) array ≡ take MAX_VOTERS ids

-- what is read of the texts of ids, the first of them field 4
abbrev pub ReadsIds : Result (Unit {0}) RecordFault → List ℕ → List (List ℕ) → Type 0
ReadsIds (Ok done) array texts = (ids : List ℕ) × (replicas_from 4 texts ≡ Ok ids) × (length ids ≡ length texts) × HoldsFirst array ids
ReadsIds (Err fault) array texts = replicas_from 4 texts ≡ Err fault
