-- The one-log laws: what holds of every run within the rollback bound and without a collision.
use Rattle.std.specs.Prelude.{◌≡◌, ℕ, ◌<◌, List, take, Some, IsSomeAnd, Ok}
use Rattle.std.specs.List.{AllByRecursion}
use Rattle.values.specs.declared.entry.Body.TheVariants.{Ask}
use Rattle.values.specs.declared.entry.Hash.{Hash}
use Rattle.values.specs.declared.event.Event.{Event}
use Rattle.values.specs.declared.ids.ClientId.{ClientId}
use Rattle.values.specs.declared.message.Reply.TheVariants.{Applied}
use Rattle.values.specs.declared.message.Request.{Request}
use Rattle.values.specs.declared.message.Request.TheVariants.{Restore}
use Rattle.values.specs.declared.message.Response.TheVariants.{Restore as Restored}
use Rattle.client_msgs.specs.Canonical.{canonical_request}
use Rattle.client_msgs.specs.Reading.{request_of}
use Rattle.record_rules.specs.declared.status.TheConstants.{OK}
use Rattle.record_rules.specs.Places.{ClientAsk, Places, ask_at, Acts}
use Rattle.record_rules.specs.Laws.{NumbersRise, GuessesEnd, Earned, IsKnown}
use Rattle.record_rules.specs.Places.{fold_places}
use Rattle.replica_model.specs.Path.{Link, entry_at}
use Rattle.replica_model.specs.Folds.{places_of, reply_of}
use Rattle.group_model.specs.Enclave.{Client}
use Rattle.group_model.specs.Run.{Recorded, World, run}
use Rattle.group_model.specs.Log.{AnyByRecursion, IsFrontOf, setup_of, fronts_of, log_of, Outcome, outcomes_of, WithinBound, NoCollision}

abbrev pub limit_of : World → ℕ
limit_of w = (setup_of w).limit

-- the log as places that the table reads
abbrev pub log_places : World → Places
log_places w = places_of (log_of w)

-- a call handed to this replica bytes that read as this request, with this client and number
abbrev pub Handed : ℕ → ClientId → ℕ → Request → Recorded → Type 0
Handed v client number request r =
    (r.replica ≡ v) × ((bytes : List ℕ) × (r.input ≡ Some (Client client number bytes)) × (request_of bytes ≡ Ok request))

-- at the outcome's index the log has an Ask of its client and number with its request's canonical bytes
abbrev pub IsAskAt : World → Outcome → Request → Type 0
IsAskAt w o request =
    (term : ℕ) × (entry_at (log_of w) o.index ≡ Some (record { term = term; body = Ask o.client o.number (canonical_request request) }))

-- an outcome is the one table's answer at its request's place in the log
pub record OutcomeHolds (w : World) (o : Outcome) : Type 0 where
  pub asked : IsSomeAnd o.request (λ request. IsAskAt w o request)
  pub replied : reply_of (limit_of w) (log_of w) o.index ≡ Some o.reply
  -- that call or an earlier one handed the request to that replica
  pub handed : IsSomeAnd o.request (λ request. AnyByRecursion (Handed o.replica o.client o.number request) o.calls)

-- an outcome that gives a secret was earned: its backup, its expose, the right PIN, and the tries that remain
abbrev pub DataHolds : World → Outcome → Type 0
DataHolds w o =
    (secret : List ℕ) (left : ℕ) → o.reply ≡ Applied (Restored OK secret left)
    → (pin : Hash) × (ask_at (log_places w) o.index ≡ Some (record { client = o.client; number = o.number; request = Restore pin }))
    × Earned (limit_of w) (log_places w) o.client o.index secret pin left

pub record OneLogLaws (w : World) : Type 0 where
  -- every committed front of any replica after any call is a front of the log
  pub one_log : AllByRecursion (λ p. IsFrontOf p (log_of w)) (fronts_of w)
  pub outcomes : AllByRecursion (OutcomeHolds w) (outcomes_of w)
  pub numbers : NumbersRise (limit_of w) (log_places w)
  pub guesses : GuessesEnd (limit_of w) (log_places w)
  pub data_earned : AllByRecursion (DataHolds w) (outcomes_of w)

-- the promise
abbrev pub OneLog : Type 0
OneLog =
    (link : Link) (events : List Event) → WithinBound (run link events) → NoCollision link (run link events)
    → OneLogLaws (run link events)

-- of a client's number at most one place of the log acts, once the client is known
abbrev pub ActsOnce : World → Type 0
ActsOnce w =
    (i k : ℕ) (a b : ClientAsk) → ask_at (log_places w) i ≡ Some a → ask_at (log_places w) k ≡ Some b
    → a.client ≡ b.client → a.number ≡ b.number → Acts (limit_of w) (log_places w) i → Acts (limit_of w) (log_places w) k
    → IsKnown (fold_places (limit_of w) (take i (log_places w))) a.client
    → i < k → ⊥
