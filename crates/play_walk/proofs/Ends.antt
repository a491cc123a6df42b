-- What stands where playing ends, piece by piece; and which events are fine that were read.
use Rattle.std.proofs.Common.{ℕ, Option, Some, None, Result, Ok, Err, List, [], ◌∷◌}
use Rattle.values.specs.declared.event.Event.{Event}
use Rattle.schedule_model.specs.Reading.{RecordFault}
use Rattle.schedule_model.specs.Written.{Written, On, Off, onto, follow, all_written, last_of}

module _ {S : Type 0} (P : S → Type 0) where
  -- where playing then stands is such
  abbrev pub Ends : Written S → Type 0
  Ends x = P (last_of x)

  onto_ends : (text : List ℕ) (x : Written S) → Ends x → Ends (onto text x)
  onto_ends text (On more s) h = h
  onto_ends text (Off more stop s) h = h

  pub follow_ends : (x : Written S) (next : S → Written S) → Ends x → ((s : S) → P s → Ends (next s)) → Ends (follow x next)
  follow_ends (On text s) next h later = onto_ends text (next s) (later s h)
  follow_ends (Off text stop s) next h later = h

  pub all_end : {A : Type 0} (piece : S → A → Written S) → ((s : S) (a : A) → P s → Ends (piece s a)) → (s : S) (xs : List A) → P s → Ends (all_written piece s xs)
  unfolding all_written
  all_end piece each s [] h = h
  all_end piece each s (a ∷ rest) h = follow_ends (piece s a) (λ t. all_written piece t rest) (each s a h) (λ t good. all_end piece each t rest good)

-- an event that was read is fine
abbrev pub ReadsFine : (Event → Type 0) → Result (Option Event) RecordFault → Type 0
ReadsFine Fine (Ok (Some e)) = Fine e
ReadsFine Fine (Ok None) = Unit {0}
ReadsFine Fine (Err fault) = Unit {0}

pub any_read : (Fine : Event → Type 0) → ((e : Event) → Fine e) → (r : Result (Option Event) RecordFault) → ReadsFine Fine r
any_read Fine fine (Ok (Some e)) = fine e
any_read Fine fine (Ok None) = tt
any_read Fine fine (Err fault) = tt
