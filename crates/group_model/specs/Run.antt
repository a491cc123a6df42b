-- Runs of the group whose replicas are those of the model, with all that they ever did.
use Rattle.std.specs.Prelude.{ℕ, false, List, [], ◌∷◌, fold, Option, Some, None}
use Rattle.values.specs.declared.event.Event.{Event}
use Rattle.replica_model.specs.Path.{Link}
use Rattle.replica_model.specs.Keyed.{value_at, put, without}
use Rattle.replica_model.specs.Replica.{Replica}
use Rattle.replica_model.specs.Message.{Message}
use Rattle.replica_model.specs.Call.{Call, still}
use Rattle.group_model.specs.Enclave.{Hello, hello_id, HostInput, Enclave, Called, started, called}
use Rattle.group_model.specs.Field.{Field, Reply, Answers, Nothing}
use Rattle.group_model.specs.Group.{Group, nothing_started}
use Rattle.group_model.specs.Happens.{Happening, Happened, Broken, Unanswered, happens}

-- a call as it is recorded: the replica, the state that it found, what was handed, which is nothing at the start, and what
-- it left
pub record Recorded : Type 0 where
  pub replica : ℕ
  pub before : Replica
  pub input : Option (HostInput Message)
  pub call : Call

-- the enclaves that run, and all calls of all that ever ran, the newest first
pub record Enclaves : Type 0 where
  pub running : List (ℕ × Enclave)
  pub history : List Recorded

abbrev pub no_enclaves : Enclaves
no_enclaves = record { running = []; history = [] }

-- a replica goes on, and its call is recorded. Nothing else moves a replica or writes history
abbrev pub moves : Enclaves → ℕ → Replica → Option (HostInput Message) → Called → Enclaves
moves f r before input c =
    record {
      running = put f.running r c.enclave;
      history = record { replica = r; before = before; input = input; call = c.call } ∷ f.history;
    }

abbrev pub newly : Enclave → Called
newly e = record { enclave = e; call = still e.replica }

abbrev pub start_enclave : Enclaves → Hello → Enclaves
start_enclave f hello = moves f (hello_id hello) (started hello).replica None (newly (started hello))

abbrev pub replies : Enclaves → ℕ → Replica → HostInput Message → Called → Reply Message Enclaves
replies f r before input c = Answers c.call.batch c.call.sent (moves f r before (Some input) c)

abbrev pub call_enclave : Link → Enclaves → ℕ → HostInput Message → Option Enclave → Reply Message Enclaves
call_enclave link f r input None = Nothing
call_enclave link f r input (Some e) = replies f r e.replica input (called link e input)

-- the field of the model's enclaves
abbrev pub enclaves : Link → Field Message Enclaves
enclaves link =
    record {
      start = start_enclave;
      call = λ f r input. call_enclave link f r input (value_at f.running r);
      stop = λ f r. record f { running = without f.running r };
      has_failed = λ f. false;
    }

abbrev pub World : Type 0
World = Group Message Enclaves

abbrev pub empty_world : World
empty_world = nothing_started no_enclaves

-- the group after what happened; a field that does not answer leaves it
abbrev pub group_after : {M F : Type 0} → Group M F → Happening M F → Group M F
group_after g (Happened came h) = h
group_after g (Broken at f) = g
group_after g Unanswered = g

-- the world after these events
abbrev pub run : Link → List Event → World
run link events = fold (λ w e. group_after w (happens (enclaves link) e w)) empty_world events
