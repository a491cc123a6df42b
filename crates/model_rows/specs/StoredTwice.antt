-- A client that stores the same secret twice: what its second report says is said of its second want.
use Rattle.std.specs.Prelude.{◌≡◌, ℕ, List, [], ◌∷◌, Some}
use Prim.Native.String.{String}
use Rattle.values.specs.declared.entry.Hash.{Hash}
use Rattle.values.specs.declared.ids.ClientId.{ClientId}
use Rattle.schedule_model.specs.Client.{Flight}
use Rattle.group_model.specs.Group.{Hearing}
use Rattle.group_model.specs.Reports.{StoredHolds}
use Rattle.group_model.specs.Run.{World}
use Rattle.trace_model.specs.Schedules.{world_of}
use Rattle.model_rows.specs.Shown.{bytes_of}
use Rattle.model_rows.specs.Toy.{toy_link}

abbrev pub schedule : List String
schedule =
    "begin,0,100,1"
    ∷ "tick,1"
    ∷ "want,00000000000000000000000000000001,store,aaaaaaaaaaaaaaaaaaaaaaaaaaaaaaaa,1111111111111111111111111111111111111111111111111111111111111111,3"
    ∷ "say,00000000000000000000000000000001,1"
    ∷ "hear,00000000000000000000000000000001,1"
    ∷ "say,00000000000000000000000000000001,1"
    ∷ "hear,00000000000000000000000000000001,2"
    ∷ "want,00000000000000000000000000000001,store,aaaaaaaaaaaaaaaaaaaaaaaaaaaaaaaa,1111111111111111111111111111111111111111111111111111111111111111,3"
    ∷ "say,00000000000000000000000000000001,1"
    ∷ "hear,00000000000000000000000000000001,3"
    ∷ "say,00000000000000000000000000000001,1"
    ∷ "hear,00000000000000000000000000000001,4"
    ∷ []

abbrev pub stored_twice : World
stored_twice = world_of toy_link (bytes_of schedule)

-- the newest hearing's report of a store is of the places 4 and 5, not of 2 and 3, which its first want has
abbrev pub OwnPlaces : World → List Hearing → Type 0
OwnPlaces w [] = ⊥
OwnPlaces w (h ∷ earlier) =
    (client : ClientId) (flight : Flight) (secret : List ℕ) (pin : Hash) (tries : ℕ) → h.flight ≡ Some flight
    → (s : StoredHolds w client earlier h flight secret pin tries) → (s.backup ≡ 4) × (s.expose ≡ 5)
