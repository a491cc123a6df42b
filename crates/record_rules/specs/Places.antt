-- Lists of asks, as the places of a log, from 1.
use Rattle.std.specs.Prelude.{◌≡◌, ℕ, zero, suc, ◌+◌, nat_lt, ◌==◌, ◌&&◌, Bool, false, if◌then◌else◌, List, take, fold, slice_get, Option, Some, None, option_map, option_and_then, unwrap_or, IsSomeAnd, ⊤}
use Rattle.values.specs.declared.ids.ClientId.{ClientId}
use Rattle.values.specs.declared.message.Request.{Request}
use Rattle.values.specs.declared.message.Response.TheVariants.{Restore as Restored}
use Rattle.values.specs.declared.message.Reply.{Reply}
use Rattle.values.specs.declared.message.Reply.TheVariants.{Applied, Stale, TableFull}
use Rattle.record_rules.specs.declared.status.TheConstants.{PIN_MISMATCH}
use Rattle.record_rules.specs.Clients.{client_eq}
use Rattle.record_rules.specs.Table.{RecordTable, empty_table}
use Rattle.record_rules.specs.Rules.{apply}

-- a client's numbered request
pub record ClientAsk : Type 0 where
  pub client : ClientId
  pub number : ℕ
  pub request : Request

-- a place of a log holds an ask, or nothing that the table reads
abbrev pub Places : Type 0
Places = List (Option ClientAsk)

-- the table after one place
abbrev pub apply_place : RecordTable → Option ClientAsk → RecordTable
apply_place table None = table
apply_place table (Some ask) = (apply table ask.client ask.number ask.request).0

-- the table after all places, from the empty one
abbrev pub fold_places : ℕ → Places → RecordTable
fold_places limit places = fold apply_place (empty_table limit) places

-- the ask at a place, if there is one
abbrev pub ask_at : Places → ℕ → Option ClientAsk
ask_at places zero = None
ask_at places (suc k) = option_and_then (λ place. place) (slice_get places k)

-- the reply that a place gives, if there is an ask
abbrev pub reply_at : ℕ → Places → ℕ → Option Reply
reply_at limit places zero = None
reply_at limit places (suc k) =
    option_map (λ ask. (apply (fold_places limit (take k places)) ask.client ask.number ask.request).1) (ask_at places (suc k))

abbrev pub IsApplied : Reply → Type 0
IsApplied (Applied response) = ⊤
IsApplied (Stale last) = ⊥
IsApplied (TableFull rows) = ⊥

-- the place holds an ask that acts
abbrev pub Acts : ℕ → Places → ℕ → Type 0
Acts limit places i = IsSomeAnd (reply_at limit places i) IsApplied

-- the place holds an ask of this client for this, which acts
abbrev pub ActsAs : ℕ → Places → ℕ → ClientId → Request → Type 0
ActsAs limit places i client request =
    Acts limit places i × ((number : ℕ) × (ask_at places i ≡ Some (record { client = client; number = number; request = request })))

abbrev pub is_ask_of : ClientId → Option ClientAsk → Bool
is_ask_of client None = false
is_ask_of client (Some ask) = client_eq ask.client client

abbrev pub is_mismatch : Reply → Bool
is_mismatch (Applied (Restored status secret tries)) = status == PIN_MISMATCH
is_mismatch _ = false

-- the place holds an ask of the client that is answered by a mismatch of the PIN
abbrev pub is_wrong_guess : ℕ → Places → ClientId → ℕ → Bool
is_wrong_guess limit places client i =
    is_ask_of client (ask_at places i) && unwrap_or (option_map is_mismatch (reply_at limit places i)) false

-- the number of places above i and up to k that are wrong guesses of the client
abbrev pub wrong_guesses : ℕ → Places → ClientId → ℕ → ℕ → ℕ
wrong_guesses limit places client i zero = 0
wrong_guesses limit places client i (suc k) =
    wrong_guesses limit places client i k
    + (if nat_lt i (suc k) && is_wrong_guess limit places client (suc k) then 1 else 0)
