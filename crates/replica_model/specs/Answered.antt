-- A ticket is answered in the very call in which the committed index passes its index.
use Rattle.std.specs.Prelude.{◌≡◌, ℕ, ◌<◌, ◌≤◌, ◌⊎◌, List, [], length, Some, Contains}
use Rattle.values.specs.declared.entry.Hash.{Hash}
use Rattle.values.specs.declared.ids.ClientId.{ClientId}
use Rattle.values.specs.declared.message.Answer.{Answer}
use Rattle.values.specs.declared.message.Answer.TheVariants.{Outcome, Undecided}
use Rattle.values.specs.declared.message.Reply.{Reply}
use Rattle.replica_model.specs.Path.{Link}
use Rattle.replica_model.specs.Folds.{reply_of}
use Rattle.replica_model.specs.Replica.{Ticket, Taking, Learner, Replica}
use Rattle.replica_model.specs.Call.{Input, Call}
use Rattle.replica_model.specs.Step.{step}

-- the answers have the ticket's outcome, with this reply
abbrev pub HasOutcome : List (ClientId × ℕ × Answer) → Ticket → Reply → Type 0
HasOutcome answers t reply = Contains answers (t.client, t.number, Outcome t.index reply)

-- the answers tell the ticket that the log was replaced, from its index or an earlier one on
abbrev pub HasReplaced : List (ClientId × ℕ × Answer) → Ticket → Type 0
HasReplaced answers t = (d : ℕ × Hash × Hash) × (d.0 ≤ t.index) × Contains answers (t.client, t.number, Undecided d.0 d.1 d.2)

-- where a call moves the committed index past the ticket's index, its batch has the outcome, with the reply of the request
-- at that index, unless the call replaced its entry first, and then it tells that
abbrev pub IsAnswered : Replica → Call → Ticket → Type 0
IsAnswered s c t =
    s.committed < t.index → t.index ≤ c.state.committed → (reply : Reply) → reply_of c.state.limit c.state.path t.index ≡ Some reply
    → HasOutcome c.batch.answers t reply ⊎ HasReplaced c.batch.answers t

-- tickets are of entries of the log, and who holds no log has none
pub record HoldsTickets (s : Replica) : Type 0 where
  pub within : (t : Ticket) → Contains s.tickets t → t.index ≤ length s.path
  pub none : (taking : Taking) → s.role ≡ Learner taking → s.tickets ≡ []

-- each ticket that a replica has when a call begins is answered so
abbrev pub StepsAnswerTickets : Type 0
StepsAnswerTickets =
    (link : Link) (s : Replica) (i : Input) → HoldsTickets s → (t : Ticket) → Contains s.tickets t → IsAnswered s (step link s i) t
