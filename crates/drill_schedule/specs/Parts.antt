-- A drill in parts: its beginning, then each client stores, and then each wants something more.
use Rattle.std.specs.Prelude.{ℕ, zero, suc, ◌+◌, ◌-◌, ◌*◌, ◌≤◌, nat_le, if◌then◌else◌, List, ◌++◌, replicate}
use Rattle.std.specs.Int.{w64, to_be_bytes}
use Rattle.rand_chacha.specs.ChaCha.{ChaCha, key_of}
use Rattle.values.specs.declared.event.Event.{Event}
use Rattle.schedule_model.specs.Drill.{all_store, all_wish, drill_events}

-- the drill of a seed and a number of clients, whose next part has this number, from 0
pub record Ahead : Type 0 where
  pub seed : ℕ
  pub clients : ℕ
  pub next : ℕ

-- how many parts a drill has
abbrev pub parts_of : ℕ → ℕ
parts_of clients = 2 * clients + 1

-- where the next part is that of a client: its events and those of the parts after it
abbrev pub from_client : ℕ → ℕ → ℕ → List Event
from_client seed clients place =
    if nat_le place clients
    then all_store (clients + 1 - place) place (2 * place - 1) ++ all_wish seed clients 1 (2 * clients + 1)
    else all_wish seed (2 * clients + 1 - place) (place - clients) (clients + place)

-- the events of the part of this number and of those after it
abbrev pub from_part : ℕ → ℕ → ℕ → List Event
from_part seed clients zero = drill_events seed clients
from_part seed clients (suc i) = from_client seed clients (suc i)

-- the events that are ahead
abbrev pub ahead : Ahead → List Event
ahead a = from_part a.seed a.clients a.next

-- the words of a seed, of which so many were taken
abbrev pub words_from : ℕ → ℕ → ChaCha
words_from seed taken = record { key = key_of (to_be_bytes w64 seed ++ replicate 24 0); stream = 0; word_pos = taken }
