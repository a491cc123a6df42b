-- What holds of every list of asks.
use Rattle.std.specs.Prelude.{◌≡◌, ℕ, suc, ◌-◌, ◌<◌, ◌≤◌, ◌⊎◌, ⊤, List, take, length, Option, Some, None, IsSome, IfSome, All}
use Rattle.values.specs.declared.entry.Hash.{Hash}
use Rattle.values.specs.declared.ids.ClientId.{ClientId}
use Rattle.values.specs.declared.row.Row.{Row}
use Rattle.values.specs.declared.row.Kept.{Kept}
use Rattle.values.specs.declared.message.Request.{Request}
use Rattle.values.specs.declared.message.Request.TheVariants.{Backup, Restore, Delete, Expose}
use Rattle.values.specs.declared.message.Response.TheVariants.{Restore as Restored, Expose as Exposed}
use Rattle.values.specs.declared.message.Reply.TheVariants.{Applied}
use Rattle.record_rules.specs.declared.status.TheConstants.{OK}
use Rattle.record_rules.specs.Table.{RecordTable, row_of, kept_in, IsRising}
use Rattle.record_rules.specs.Rules.{act}
use Rattle.values.specs.Sizes.{IsValid}
use Rattle.record_rules.specs.Places.{ClientAsk, Places, fold_places, ask_at, reply_at, Acts, ActsAs, wrong_guesses}

-- the client's record, if there is one
abbrev pub record_of : RecordTable → ClientId → Option Kept
record_of table client = kept_in (row_of table.rows client)

abbrev pub IsKnown : RecordTable → ClientId → Type 0
IsKnown table client = IsSome (row_of table.rows client)

-- each request is valid
abbrev pub AreValid : Places → Type 0
AreValid places = All (λ place. IfSome place (λ ask. IsValid ask.request)) places

-- no backup of the client acts above place i and up to place k
abbrev pub NoBackup : ℕ → Places → ClientId → ℕ → ℕ → Type 0
NoBackup limit places client i k =
    (j : ℕ) (secret : List ℕ) (pin : Hash) (tries : ℕ) → i < j → j ≤ k → ¬ (ActsAs limit places j client (Backup secret pin tries))

-- no delete of the client does
abbrev pub NoDelete : ℕ → Places → ClientId → ℕ → ℕ → Type 0
NoDelete limit places client i k = (j : ℕ) → i < j → j ≤ k → ¬ (ActsAs limit places j client Delete)

-- the client's row after the first k places
abbrev pub row_after : ℕ → Places → ClientId → ℕ → Option Row
row_after limit places client k = row_of (fold_places limit (take k places)).rows client

abbrev pub IsBackup : Request → Type 0
IsBackup (Backup secret pin tries) = ⊤
IsBackup (Restore pin) = ⊥
IsBackup Delete = ⊥
IsBackup (Expose secret) = ⊥

-- the place after the first k holds an ask of the client for this that acts, and the client is known or it is a backup
abbrev pub PutsRow : ℕ → Places → ClientId → ℕ → ℕ → Request → Type 0
PutsRow limit places client k number request =
    (ask_at places (suc k) ≡ Some (record { client = client; number = number; request = request }))
    × Acts limit places (suc k) × (IsSome (row_after limit places client k) ⊎ IsBackup request)

-- rows: such a place gives the client's row its number, and does by the record rules with its record
abbrev pub RowsArePut : ℕ → Places → Type 0
RowsArePut limit places =
    (client : ClientId) (k number : ℕ) (request : Request) → PutsRow limit places client k number request
    → row_after limit places client (suc k)
    ≡ Some (record { client = client; last = number; kept = (act request (kept_in (row_after limit places client k))).0 })

-- and no other place changes the row
abbrev pub RowsStay : ℕ → Places → Type 0
RowsStay limit places =
    (client : ClientId) (k : ℕ) → ((number : ℕ) (request : Request) → ¬ (PutsRow limit places client k number request))
    → row_after limit places client (suc k) ≡ row_after limit places client k

-- bounds: the table has this limit, no more rows than that, and they rise
pub record IsBounded (limit : ℕ) (table : RecordTable) : Type 0 where
  pub limit_is : table.limit ≡ limit
  pub few : length table.rows ≤ limit
  pub rising : IsRising table.rows

-- numbers: of two places of a client that act, the client being known after the first, the later has the higher number
abbrev pub NumbersRise : ℕ → Places → Type 0
NumbersRise limit places =
    (i k : ℕ) (a b : ClientAsk) → i < k → ask_at places i ≡ Some a → ask_at places k ≡ Some b → a.client ≡ b.client
    → Acts limit places i → Acts limit places k → IsKnown (fold_places limit (take i places)) a.client → a.number < b.number

-- guesses: where the client's last backup that acted up to place k is of n tries, at most n guesses since then were wrong;
-- and where n were, the client has no record
abbrev pub GuessesEnd : ℕ → Places → Type 0
GuessesEnd limit places =
    (client : ClientId) (b k : ℕ) (secret : List ℕ) (pin : Hash) (tries : ℕ)
    → ActsAs limit places b client (Backup secret pin tries) → NoBackup limit places client b k
    → (wrong_guesses limit places client b k ≤ tries)
    × (wrong_guesses limit places client b k ≡ tries → record_of (fold_places limit (take k places)) client ≡ None)

-- what went before place k, at which a client was given this secret for this PIN, with so many tries left
pub record Earned (limit : ℕ) (places : Places) (client : ClientId) (k : ℕ) (secret : List ℕ) (pin : Hash) (left : ℕ) : Type 0 where
  pub backup : ℕ
  pub tries : ℕ
  pub expose : ℕ
  -- the client's last backup that acted was of this secret and this PIN
  pub before : backup < k
  pub backed_up : ActsAs limit places backup client (Backup secret pin tries)
  pub newest : NoBackup limit places client backup k
  -- since then the secret was exposed, and nothing was deleted
  pub after_backup : backup < expose
  pub before_given : expose < k
  pub exposed : ActsAs limit places expose client (Expose secret)
  pub expose_done : reply_at limit places expose ≡ Some (Applied (Exposed OK))
  pub undeleted : NoDelete limit places client backup k
  -- and fewer guesses were wrong than there were tries
  pub guesses : wrong_guesses limit places client backup k < tries
  pub left_over : left ≡ tries - wrong_guesses limit places client backup k

-- data: a secret leaves only as it was earned, for a restore with its PIN
abbrev pub DataIsEarned : ℕ → Places → Type 0
DataIsEarned limit places =
    (k : ℕ) (ask : ClientAsk) (secret : List ℕ) (left : ℕ)
    → ask_at places k ≡ Some ask → reply_at limit places k ≡ Some (Applied (Restored OK secret left))
    → (pin : Hash) × (ask.request ≡ Restore pin) × Earned limit places ask.client k secret pin left
