-- The schedule of a drill: clients that store, and then recover or delete, as the words of a seed say.
use Rattle.std.specs.Prelude.{ℕ, zero, suc, ◌+◌, ◌-◌, ◌*◌, ◌%◌, ◌==◌, if◌then◌else◌, List, [], ◌∷◌, ◌++◌, replicate}
use Rattle.std.specs.Int.{w64, to_be_bytes}
use Rattle.rand_chacha.specs.ChaCha.{word_at, key_of}
use Rattle.values.specs.declared.limits.TheConstants.{MOST_ROWS}
use Rattle.values.specs.declared.entry.Hash.{Hash}
use Rattle.values.specs.declared.event.Event.{Event}
use Rattle.values.specs.declared.event.Event.TheVariants as event
use Rattle.values.specs.declared.ids.ClientId.{ClientId}
use Rattle.values.specs.declared.want.Want.{Want}
use Rattle.values.specs.declared.want.Want.TheVariants as want

-- word i, from 0, of ChaCha8 (4 double rounds), whose key is the seed as 8 bytes, high byte first, and 24 zero bytes
abbrev pub word : ℕ → ℕ → ℕ
word seed i = word_at 4 (key_of (to_be_bytes w64 seed ++ replicate 24 0)) 0 i

-- client i has the id i, as 16 bytes, high byte first
abbrev pub client : ℕ → ClientId
client i = record { 0 = replicate 8 0 ++ to_be_bytes w64 i }

abbrev pub secret : ℕ → List ℕ
secret i = replicate 16 (i % 256)

abbrev pub pin : ℕ → Hash
pin i = record { 0 = replicate 32 (1 + i % 255) }

abbrev pub no_pin : Hash
no_pin = record { 0 = replicate 32 0 }

abbrev pub tries : ℕ → ℕ
tries i = 1 + i % 5

-- the client says its request, and hears answer a
abbrev pub exchange : ℕ → ℕ → List Event
exchange i a = event.Say (client i) 1 ∷ event.Settle 24 ∷ event.Hear (client i) a ∷ []

-- client i stores, and hears answers a and a + 1
abbrev pub stores : ℕ → ℕ → List Event
stores i a = event.Want (client i) (want.Store (secret i) (pin i) (tries i)) ∷ (exchange i a ++ exchange i (a + 1))

-- what client i wants by a word
abbrev pub wish : ℕ → ℕ → Want
wish i w = if w % 4 == 1 then want.Recover no_pin else if w % 4 == 2 then want.Erase else want.Recover (pin i)

-- client i wants that, in the leader's next round where the word says so, and hears answer a
abbrev pub wishes : ℕ → ℕ → ℕ → List Event
wishes i a w =
    (if w % 4 == 3 then event.Tick 1 ∷ event.Settle 8 ∷ [] else [])
    ++ (event.Want (client i) (wish i w) ∷ exchange i a)

-- n clients from client i on, whose first answer is a
abbrev pub all_store : ℕ → ℕ → ℕ → List Event
all_store zero i a = []
all_store (suc n) i a = stores i a ++ all_store n (i + 1) (a + 2)

abbrev pub all_wish : ℕ → ℕ → ℕ → ℕ → List Event
all_wish seed zero i a = []
all_wish seed (suc n) i a = wishes i a (word seed (i - 1)) ++ all_wish seed n (i + 1) (a + 1)

-- the events of the drill of a seed and a number of clients
abbrev pub drill_events : ℕ → ℕ → List Event
drill_events seed clients =
    event.Begin 1 MOST_ROWS (1 ∷ 2 ∷ 3 ∷ 4 ∷ 5 ∷ [])
    ∷ event.Tick 1
    ∷ event.Settle 32
    ∷ (all_store clients 1 1 ++ all_wish seed clients 1 (2 * clients + 1))
