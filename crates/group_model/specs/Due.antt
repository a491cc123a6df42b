-- A ticket is answered in the very call in which the committed index passes its index.
use Rattle.std.specs.Prelude.{◌≡◌, ℕ, ◌<◌, ◌≤◌, ◌⊎◌, List, ◌++◌, Option, Some}
use Rattle.std.specs.List.{AllByRecursion}
use Rattle.values.specs.declared.entry.Hash.{Hash}
use Rattle.values.specs.declared.event.Event.{Event}
use Rattle.values.specs.declared.ids.ClientId.{ClientId}
use Rattle.values.specs.declared.message.Answer.{Answer}
use Rattle.values.specs.declared.message.Answer.TheVariants.{Outcome, Undecided}
use Rattle.values.specs.declared.message.Reply.{Reply}
use Rattle.replica_model.specs.Path.{Path, Link}
use Rattle.replica_model.specs.Folds.{reply_of}
use Rattle.replica_model.specs.Message.{Message}
use Rattle.replica_model.specs.Replica.{Ticket}
use Rattle.group_model.specs.Enclave.{HostInput, Roll}
use Rattle.group_model.specs.Run.{Recorded, run}
use Rattle.group_model.specs.Log.{AnyByRecursion, asked_in}

-- the answers have a ticket's outcome, with the reply of its place
abbrev pub IsToldOutcome : ℕ → Path → List (ClientId × ℕ × Answer) → Ticket → Type 0
IsToldOutcome limit path answers t =
    (reply : Reply) × (reply_of limit path t.index ≡ Some reply)
    × AnyByRecursion (λ a. a ≡ (t.client, t.number, Outcome t.index reply)) answers

-- the answers tell a ticket that the log was replaced, from its index or an earlier one on
abbrev pub IsToldReplaced : List (ClientId × ℕ × Answer) → Ticket → Type 0
IsToldReplaced answers t =
    (d : ℕ × Hash × Hash) × (d.0 ≤ t.index) × AnyByRecursion (λ a. a ≡ (t.client, t.number, Undecided d.0 d.1 d.2)) answers

-- the tickets that a call holds: those that it found and the one that it may have made
abbrev pub tickets_in : Recorded → List Ticket
tickets_in r = r.before.tickets ++ asked_in r.before r.input

-- where the call moves the committed index past a ticket's index, it tells its outcome, unless it replaced its entry first,
-- and then it tells that
abbrev pub IsAnswered : Recorded → Ticket → Type 0
IsAnswered r t =
    r.before.committed < t.index → t.index ≤ r.call.state.committed
    → IsToldOutcome r.call.state.limit r.call.state.path r.call.batch.answers t ⊎ IsToldReplaced r.call.batch.answers t

-- A roll is no call of the replica: it puts a saved state back, which has its own tickets and its own committed index.
abbrev pub AreAnswered : Recorded → Option (HostInput Message) → Type 0
AreAnswered r (Some (Roll state)) = Unit {0}
AreAnswered r input = AllByRecursion (IsAnswered r) (tickets_in r)

-- the promise: of every call of every run
abbrev pub TicketsAnswered : Type 0
TicketsAnswered =
    (link : Link) (events : List Event) → AllByRecursion (λ (r : Recorded). AreAnswered r r.input) (run link events).field.history
