-- The tickets whose index the committed one passes in a call, and what the batch tells of them.
use Rattle.std.specs.Prelude.{◌≡◌, ℕ, ◌+◌, ◌<◌, ◌≤◌, ◌⊎◌, Some, Result, Ok, Err, List, [], ◌∷◌, ◌++◌, length}
use Rattle.std.specs.List.{Contains}
use Rattle.values.specs.declared.batch.Batch.{Batch}
use Rattle.values.specs.declared.ids.ClientId.{ClientId}
use Rattle.values.specs.declared.message.Answer.{Answer}
use Rattle.values.specs.declared.message.Answer.TheVariants.{Outcome, Undecided}
use Rattle.values.specs.declared.message.Reply.{Reply}
use Rattle.values.specs.declared.message.Request.{Request}
use Rattle.client_msgs.specs.declared.fault.RequestFault.{RequestFault}
use Rattle.client_msgs.specs.Reading.{request_of}
use Rattle.replica_model.specs.Path.{Path}
use Rattle.replica_model.specs.Folds.{reply_of}
use Rattle.replica_model.specs.Graft.{Difference}
use Rattle.replica_model.specs.Replica.{Replica, Ticket}
use Rattle.replica_model.specs.Call.{Input, Client, Call}

-- the ticket of a request that is handed to the replica, if its bytes are one
abbrev pub ticket_of : Replica → ClientId → ℕ → Result Request RequestFault → List Ticket
ticket_of s client number (Ok request) = record { index = length s.path + 1; client = client; number = number; request = request } ∷ []
ticket_of s client number (Err fault) = []

-- the tickets that a call finds, and the one that it may make
abbrev pub tickets_by : Replica → Input → List Ticket
tickets_by s (Client client number bytes) = s.tickets ++ ticket_of s client number (request_of bytes)
tickets_by s _ = s.tickets

-- the answers have the ticket's outcome: its client, its number, its index, and the reply of the path's table at that place,
-- where an ask stands there
abbrev pub IsToldOutcome : ℕ → Path → List (ClientId × ℕ × Answer) → Ticket → Type 0
IsToldOutcome limit path answers t =
    (reply : Reply) → reply_of limit path t.index ≡ Some reply → Contains answers (t.client, t.number, Outcome t.index reply)

-- the answers tell the ticket that the path was replaced, from its index or an earlier one on
abbrev pub IsToldReplaced : List (ClientId × ℕ × Answer) → Ticket → Type 0
IsToldReplaced answers t =
    (d : Difference) × ((d.0 ≤ t.index) × Contains answers (t.client, t.number, Undecided d.0 d.1 d.2))

-- each ticket above one index and up to another is told its outcome, or that its entry was replaced
abbrev pub AreTold : List Ticket → ℕ → ℕ → Path → ℕ → List (ClientId × ℕ × Answer) → Type 0
AreTold tickets since limit path committed answers =
    (t : Ticket) → Contains tickets t → since < t.index → t.index ≤ committed → IsToldOutcome limit path answers t ⊎ IsToldReplaced answers t

-- so is each whose index the committed one passes in this very call
abbrev pub DueAreTold : Replica → Input → Call → Batch → Type 0
DueAreTold s i c batch = AreTold (tickets_by s i) s.committed c.state.limit c.state.path c.state.committed batch.answers
