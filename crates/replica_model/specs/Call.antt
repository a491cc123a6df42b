-- What a replica is told, and what one call makes of it.
use Rattle.std.specs.Prelude.{ℕ, Bool, Some, None, List, [], ◌∷◌, ◌++◌}
use Rattle.values.specs.declared.batch.Batch.{Batch}
use Rattle.values.specs.declared.batch.Refusal.{Refusal}
use Rattle.values.specs.declared.ids.ClientId.{ClientId}
use Rattle.values.specs.declared.message.Answer.{Answer}
use Rattle.values.specs.declared.peer.PeerMsg.{PeerMsg}
use Rattle.replica_model.specs.Replica.{Replica}
use Rattle.replica_model.specs.Message.{Message, plain}

-- what a replica is told: its timer ran out, a message came, a client asks, or its members are to change
pub data Input : Type 0 where
  Tick : Input
  Peer : (from : ℕ) (message : Message) → Input
  Client : (client : ClientId) (number : ℕ) (request : List ℕ) → Input
  Join : (id : ℕ) (linked : Bool) → Input
  Admit : (id : ℕ) → Input
  Remove : (id : ℕ) → Input
  Margin : (margin : ℕ) → Input

-- a call as far as it has come; at its end nothing is left in `appends`
pub record Call : Type 0 where
  pub state : Replica
  pub batch : Batch
  -- the batch's messages in its order, with what they name
  pub sent : List (ℕ × Message)
  -- the peers that are to be sent an append at the end of the call
  pub appends : List ℕ
  -- the leader each time that it raises: before, between promise and commit, and after, so also before one that is
  -- no voter any more stops leading
  pub moments : List Replica

-- a batch that tells nothing
abbrev pub empty_batch : Batch
empty_batch =
    record { lead = None; members = []; halt = None; taken = None; commits = []; answers = []; sent = []; saved = None; refused = None }

-- nothing more has happened than that the replica is in this state
abbrev pub still : Replica → Call
still s = record { state = s; batch = empty_batch; sent = []; appends = []; moments = [] }

-- a message to a replica, after those that the call has sent
abbrev pub send_to : Call → ℕ → Message → Call
send_to c to message = record c { sent = c.sent ++ (to, message) ∷ [] }

-- the one message of a call
abbrev pub says : Replica → ℕ → PeerMsg → Call
says s to msg = send_to (still s) to (plain msg)

-- the one answer of a call
abbrev pub answers : Replica → ClientId → ℕ → Answer → Call
answers s client number answer = record (still s) { batch = record empty_batch { answers = (client, number, answer) ∷ [] } }

-- the refusal of a call, which leaves the state as it was
abbrev pub refuses : Replica → Refusal → Call
refuses s refusal = record (still s) { batch = record empty_batch { refused = Some refusal } }

-- the leader stands at a moment that counts
abbrev pub moment : Call → Call
moment c = record c { moments = c.moments ++ c.state ∷ [] }
