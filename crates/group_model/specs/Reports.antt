-- What a client's reports say of the log.
use Rattle.std.specs.Prelude.{◌≡◌, ℕ, ◌+◌, ◌<◌, true, false, List, [], ◌∷◌, take, Option, Some, None}
use Rattle.std.specs.List.{AllByRecursion}
use Rattle.values.specs.declared.entry.Hash.{Hash}
use Rattle.values.specs.declared.event.Event.{Event}
use Rattle.values.specs.declared.event.Event.TheVariants as event
use Rattle.values.specs.declared.ids.ClientId.{ClientId}
use Rattle.values.specs.declared.message.Answer.TheVariants.{Outcome}
use Rattle.values.specs.declared.message.Reply.{Reply}
use Rattle.values.specs.declared.message.Reply.TheVariants.{Applied}
use Rattle.values.specs.declared.message.Request.{Request}
use Rattle.values.specs.declared.message.Request.TheVariants.{Backup, Restore, Expose}
use Rattle.values.specs.declared.message.Response.TheVariants.{Backup as BackedUp, Restore as Restored, Expose as Exposed}
use Rattle.values.specs.declared.want.Report.{Report}
use Rattle.values.specs.declared.want.Report.TheVariants as report
use Rattle.values.specs.declared.want.Want.{Want}
use Rattle.values.specs.declared.want.Want.TheVariants as want
use Rattle.record_rules.specs.declared.status.TheConstants.{OK}
use Rattle.record_rules.specs.Places.{Acts, ask_at, reply_at, fold_places}
use Rattle.record_rules.specs.Laws.{Earned, record_of}
use Rattle.replica_model.specs.Path.{Link}
use Rattle.schedule_model.specs.Client.{Flight, flight_request, Reports, reply_meaning}
use Rattle.group_model.specs.Group.{Hearing}
use Rattle.group_model.specs.Run.{World, run}
use Rattle.group_model.specs.Log.{AnyByRecursion, WithinBound, NoCollision}
use Rattle.group_model.specs.Laws.{limit_of, log_places}

-- an event that asks for this client past its core
abbrev pub Names : ClientId → Event → Type 0
Names c (event.Ask r client number request) = client ≡ c
Names c e = ⊥

-- the client's requests come from its own core alone
abbrev pub IsOnlySaid : World → ClientId → Type 0
IsOnlySaid w c = AllByRecursion (λ e. ¬ (Names c e)) w.past

-- at this index of the log stands this request of the client, under this number
abbrev pub AskedAt : World → ClientId → ℕ → ℕ → Request → Type 0
AskedAt w c number index request = ask_at (log_places w) index ≡ Some (record { client = c; number = number; request = request })

-- what a client heard: with this in flight, and to its number, this reply at this index of the log
abbrev pub Heard : ClientId → Flight → ℕ → Reply → Hearing → Type 0
Heard c flight index reply h =
    (h.client ≡ c) × (h.flight ≡ Some flight) × (h.answered.number ≡ flight.number) × (h.answered.answer ≡ Outcome index reply)

-- a backup in flight under this number
abbrev pub backup_flight : List ℕ → Hash → ℕ → ℕ → Flight
backup_flight secret pin tries number = record { want = want.Store secret pin tries; number = number; exposes = false }

-- stored, by a hearing and those before it: the hearing is that of the want's expose, and an earlier one that of its
-- backup, under the number before, earlier in the log; both act, and after the expose the record stands, exposed, with all
-- its tries
pub record StoredHolds (w : World) (c : ClientId) (earlier : List Hearing) (h : Hearing) (flight : Flight) (secret : List ℕ) (pin : Hash) (tries : ℕ) : Type 0 where
  pub number : ℕ
  pub next : flight.number ≡ number + 1
  pub backup : ℕ
  pub expose : ℕ
  pub in_order : backup < expose
  pub heard_backup : AnyByRecursion (Heard c (backup_flight secret pin tries number) backup (Applied (BackedUp OK))) earlier
  pub heard_expose : Heard c flight expose (Applied (Exposed OK)) h
  pub asked_backup : AskedAt w c number backup (Backup secret pin tries)
  pub asked_expose : AskedAt w c flight.number expose (Expose secret)
  pub acts_backup : Acts (limit_of w) (log_places w) backup
  pub acts_expose : Acts (limit_of w) (log_places w) expose
  pub done : reply_at (limit_of w) (log_places w) expose ≡ Some (Applied (Exposed OK))
  pub kept :
      record_of (fold_places (limit_of w) (take expose (log_places w))) c
      ≡ Some (record { secret = secret; pin = pin; left = tries; exposed = true })

-- recovered: the hearing is that of the want's restore, which stands in the log with the want's PIN, and the secret was
-- earned there
pub record RecoveredHolds (w : World) (c : ClientId) (flight : Flight) (pin : Hash) (secret : List ℕ) (left : ℕ) (h : Hearing) : Type 0 where
  pub index : ℕ
  pub heard : Heard c flight index (Applied (Restored OK secret left)) h
  pub asked : AskedAt w c flight.number index (Restore pin)
  pub earned : Earned (limit_of w) (log_places w) c index secret pin left

-- any other report is the meaning of the reply at the heard place, where the request in flight stands
pub record MeaningHolds (w : World) (c : ClientId) (flight : Flight) (r : Report) (h : Hearing) : Type 0 where
  pub index : ℕ
  pub reply : Reply
  pub heard : Heard c flight index reply h
  pub asked : AskedAt w c flight.number index (flight_request flight)
  pub replied : reply_at (limit_of w) (log_places w) index ≡ Some reply
  pub meant : reply_meaning flight reply ≡ Reports r

abbrev pub StoredFor : World → ClientId → List Hearing → Hearing → Flight → Want → Type 0
StoredFor w c earlier h flight (want.Store secret pin tries) = StoredHolds w c earlier h flight secret pin tries
StoredFor w c earlier h flight (want.Recover pin) = ⊥
StoredFor w c earlier h flight want.Erase = ⊥

abbrev pub RecoveredFor : World → ClientId → Flight → Want → List ℕ → ℕ → Hearing → Type 0
RecoveredFor w c flight (want.Store s pin tries) secret left h = ⊥
RecoveredFor w c flight (want.Recover pin) secret left h = RecoveredHolds w c flight pin secret left h
RecoveredFor w c flight want.Erase secret left h = ⊥

-- what a report says, by the hearing that gave it and those before it. Undecided says nothing
abbrev pub ReportHolds : World → ClientId → List Hearing → Hearing → Flight → Report → Type 0
ReportHolds w c earlier h flight report.Stored = StoredFor w c earlier h flight flight.want
ReportHolds w c earlier h flight (report.Recovered secret left) = RecoveredFor w c flight flight.want secret left h
ReportHolds w c earlier h flight (report.Undecided last) = Unit {0}
ReportHolds w c earlier h flight r = MeaningHolds w c flight r h

abbrev pub HearingHolds : World → ClientId → List Hearing → Hearing → Option Flight → Option Report → Type 0
HearingHolds w c earlier h flight None = Unit {0}
HearingHolds w c earlier h None (Some r) = ⊥
HearingHolds w c earlier h (Some flight) (Some r) = ReportHolds w c earlier h flight r

-- each hearing of the client holds, over those before it
abbrev pub ReportsHold : World → ClientId → List Hearing → Type 0
ReportsHold w c [] = Unit {0}
ReportsHold w c (h ∷ hs) = (h.client ≡ c → HearingHolds w c hs h h.flight h.report) × ReportsHold w c hs

-- the promise
abbrev pub ReportsFollow : Type 0
ReportsFollow =
    (link : Link) (events : List Event) (c : ClientId) → WithinBound (run link events) → NoCollision link (run link events)
    → IsOnlySaid (run link events) c
    → ReportsHold (run link events) c (run link events).hearings
