-- What a call of an enclave leaves, by the cases in which a law has something to say of it.
use Rattle.std.specs.Prelude.{ℕ, ◌≡◌, ◌⊎◌, [], ◌∷◌, ◌++◌, length, slice_get, Option, Some, None}
use Rattle.group_quorum.specs.Voters.{is_in}
use Rattle.values.specs.declared.batch.Refusal.{Refusal}
use Rattle.values.specs.declared.batch.Refusal.TheVariants.{NoLink, NoState, NotForMe}
use Rattle.schedule_model.specs.Reading.{max_u32}
use Rattle.replica_model.specs.Path.{Link}
use Rattle.replica_model.specs.Replica.{Replica}
use Rattle.replica_model.specs.Message.{Message}
use Rattle.replica_model.specs.Call.{Call, empty_batch, still}
use Rattle.replica_model.specs.Call as step
use Rattle.replica_model.specs.Step.{step as step_of}
use Rattle.group_model.specs.Enclave.{HostInput, Tick, Peer, Client, Join, Admit, Remove, Save, Roll, Connect, Margin, Enclave, Called}

-- why a call leaves the replica as it was: it is linked, a state of it is saved, there is no number for one more, a frame is
-- for another or from one that is not linked, or there is no such state
pub data Idle : Type 0 where
  Links : (id : ℕ) → Idle
  Saves : Idle
  Full : Idle
  NotMine : (from to : ℕ) (m : Message) → Idle
  NotLinked : (from to : ℕ) (m : Message) → Idle
  NotThere : (k : ℕ) → Idle

abbrev pub idle_input : Idle → HostInput Message
idle_input (Links id) = Connect id
idle_input Saves = Save
idle_input Full = Save
idle_input (NotMine from to m) = Peer from to m
idle_input (NotLinked from to m) = Peer from to m
idle_input (NotThere k) = Roll k

abbrev pub idle_saved : Enclave → Idle → Option ℕ
idle_saved e Saves = Some (length e.saved)
idle_saved e other = None

abbrev pub idle_refused : Idle → Option Refusal
idle_refused (Links id) = None
idle_refused Saves = None
idle_refused Full = Some (NoState max_u32)
idle_refused (NotMine from to m) = Some (NotForMe to)
idle_refused (NotLinked from to m) = Some (NoLink from)
idle_refused (NotThere k) = Some (NoState k)

abbrev pub idle_call : Enclave → Idle → Call
idle_call e why = record (still e.replica) { batch = record empty_batch { saved = idle_saved e why; refused = idle_refused why } }

-- T stands of what the host hands and the replica is told so, R of the number of a state that is to be put back
module _ (e : Enclave) (T : HostInput Message → step.Input → Type 0) (R : ℕ → Type 0) where
  abbrev pub Handed : HostInput Message → Type 0
  Handed Tick = T Tick step.Tick
  Handed (Peer from to m) = T (Peer from to m) (step.Peer from m)
  Handed (Client client number request) = T (Client client number request) (step.Client client number request)
  Handed (Join id) = T (Join id) (step.Join id (is_in e.links id))
  Handed (Admit id) = T (Admit id) (step.Admit id)
  Handed (Remove id) = T (Remove id) (step.Remove id)
  Handed Save = Unit {0}
  Handed (Roll k) = R k
  Handed (Connect id) = Unit {0}
  Handed (Margin margin) = T (Margin margin) (step.Margin margin)

  -- and C then stands of the call
  pub record Encloses (link : Link) (C : HostInput Message → Call → Type 0) : Type 0 where
    pub stays : (why : Idle) → Handed (idle_input why) → C (idle_input why) (idle_call e why)
    pub steps : (input : HostInput Message) (told : step.Input) → T input told → C input (step_of link e.replica told)
    pub rolls : (k : ℕ) (s : Replica) → slice_get e.saved k ≡ Some s → R k → C (Roll k) (still s)

-- a call of the enclave e of which C stands: its state is the replica now, and at most the replica was saved
pub record Enclosed (C : Call → Type 0) (e : Enclave) (c : Called) : Type 0 where
  pub same : c.call.state ≡ c.enclave.replica
  pub saved : (c.enclave.saved ≡ e.saved) ⊎ (c.enclave.saved ≡ e.saved ++ e.replica ∷ [])
  pub call : C c.call
