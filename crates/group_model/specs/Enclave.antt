-- A replica in its enclave: with its links, and the states that its host has saved.
use Rattle.std.specs.Prelude.{ℕ, ◌-◌, ◌==◌, not, Bool, true, false, if◌then◌else◌, List, [], ◌∷◌, ◌++◌, length, filter, slice_get, Option, Some, None}
use Rattle.group_quorum.specs.Voters.{is_in}
use Rattle.values.specs.declared.batch.Refusal.{Refusal}
use Rattle.values.specs.declared.batch.Refusal.TheVariants.{NoLink, NoState, NotForMe}
use Rattle.values.specs.declared.ids.ClientId.{ClientId}
use Rattle.replica_model.specs.Path.{Link}
use Rattle.replica_model.specs.Replica.{Replica, begin, learner}
use Rattle.replica_model.specs.Message.{Message}
use Rattle.replica_model.specs.Call.{Call, empty_batch, still}
use Rattle.replica_model.specs.Call as step
use Rattle.replica_model.specs.Step.{step as step_of}
use Rattle.schedule_model.specs.Reading.{max_u32}

-- how an enclave is started
pub data Hello : Type 0 where
  Begin : (id margin limit : ℕ) (voters : List ℕ) → Hello
  Learn : (id : ℕ) (linked : List ℕ) → Hello

-- what a host hands to a running enclave. Messages are of whatever type
pub data HostInput (M : Type 0) : Type 0 where
  Tick : HostInput M
  Peer : (from to : ℕ) (message : M) → HostInput M
  Client : (client : ClientId) (number : ℕ) (request : List ℕ) → HostInput M
  Join : (id : ℕ) → HostInput M
  Admit : (id : ℕ) → HostInput M
  Remove : (id : ℕ) → HostInput M
  Save : HostInput M
  Roll : (state : ℕ) → HostInput M
  Connect : (id : ℕ) → HostInput M
  Margin : (margin : ℕ) → HostInput M

pub record Enclave : Type 0 where
  pub replica : Replica
  pub links : List ℕ
  -- state 0 is the first one
  pub saved : List Replica

-- the enclave after a call, and what the call left
pub record Called : Type 0 where
  pub enclave : Enclave
  pub call : Call

abbrev pub enclave_of : Replica → List ℕ → Enclave
enclave_of s links = record { replica = s; links = links; saved = s ∷ [] }

-- after Begin the links are the other voters, after Learn those that are listed
abbrev pub started : Hello → Enclave
started (Begin id margin limit voters) =
    enclave_of (begin id (record { margin = margin; voters = voters }) limit) (filter (λ v. not (v == id)) voters)
started (Learn id linked) = enclave_of (learner id) linked

abbrev pub hello_id : Hello → ℕ
hello_id (Begin id margin limit voters) = id
hello_id (Learn id linked) = id

-- a call of the replica
abbrev pub calls : Enclave → Call → Called
calls e call = record { enclave = record e { replica = call.state }; call = call }

abbrev pub refuses : Enclave → Refusal → Called
refuses e refusal = calls e (step.refuses e.replica refusal)

-- a save keeps a copy under the next number, from 1
abbrev pub saves : Enclave → Called
saves e =
    record {
      enclave = record e { saved = e.saved ++ e.replica ∷ [] };
      call = record (still e.replica) { batch = record empty_batch { saved = Some (length e.saved) } };
    }

abbrev pub saves_if : Bool → Enclave → Called
saves_if true e = saves e
saves_if false e = refuses e (NoState max_u32)

-- a roll puts a saved state back in full, and leaves the links
abbrev pub rolls_to : Enclave → ℕ → Option Replica → Called
rolls_to e k None = refuses e (NoState k)
rolls_to e k (Some s) = calls e (still s)

abbrev pub linked_to : List ℕ → ℕ → List ℕ
linked_to links id = if is_in links id then links else id ∷ links

abbrev pub connects : Enclave → ℕ → Called
connects e id = record { enclave = record e { links = linked_to e.links id }; call = still e.replica }

-- a message is taken where it is for this replica, and from one that is linked
abbrev pub accepts : Bool → Bool → Link → Enclave → ℕ → ℕ → Message → Called
accepts false linked link e from to m = refuses e (NotForMe to)
accepts true false link e from to m = refuses e (NoLink from)
accepts true true link e from to m = calls e (step_of link e.replica (step.Peer from m))

-- one call of an enclave
abbrev pub called : Link → Enclave → HostInput Message → Called
called link e Tick = calls e (step_of link e.replica step.Tick)
called link e (Peer from to m) = accepts (to == e.replica.me) (is_in e.links from) link e from to m
called link e (Client client number request) = calls e (step_of link e.replica (step.Client client number request))
called link e (Join id) = calls e (step_of link e.replica (step.Join id (is_in e.links id)))
called link e (Admit id) = calls e (step_of link e.replica (step.Admit id))
called link e (Remove id) = calls e (step_of link e.replica (step.Remove id))
called link e Save = saves_if (not (length e.saved - 1 == max_u32)) e
called link e (Roll k) = rolls_to e k (slice_get e.saved k)
called link e (Connect id) = connects e id
called link e (Margin margin) = calls e (step_of link e.replica (step.Margin margin))
