-- What stands of each step and of each call without one stands of every call of an enclave.
use Rattle.std.proofs.Common.{◌≡◌, ℕ, ◌==◌, ◌-◌, not, inl, inr, Bool, true, false, Option, Some, None, length, slice_get, refl}
use Rattle.group_quorum.specs.Voters.{is_in}
use Rattle.schedule_model.specs.Reading.{max_u32}
use Rattle.replica_model.specs.Path.{Link}
use Rattle.replica_model.specs.Replica.{Replica}
use Rattle.replica_model.specs.Message.{Message}
use Rattle.replica_model.specs.Call.{Call, still}
use Rattle.replica_model.specs.Call as step
use Rattle.group_model.specs.Enclave.{HostInput, Tick, Peer, Client, Join, Admit, Remove, Save, Roll, Connect, Margin, Enclave, calls, saves_if, rolls_to, accepts, called}
use Rattle.event_walk.specs.Enclosed.{Links, Saves, Full, NotMine, NotLinked, NotThere, Handed, Encloses, Enclosed}

module _ (link : Link) (e : Enclave) (T : HostInput Message → step.Input → Type 0) (R : ℕ → Type 0) (C : HostInput Message → Call → Type 0) (r : Encloses e T R link C) where
  -- no state is saved
  plainly : (input : HostInput Message) (call : Call) → C input call → Enclosed (C input) e (calls e call)
  plainly input call fine = record { same = refl; saved = inl refl; call = fine }

  steps_keep : (input : HostInput Message) (told : step.Input) → T input told → Enclosed (C input) e (calls e (Rattle.replica_model.specs.Step.step link e.replica told))
  steps_keep input told x = plainly input _ (r.steps input told x)

  accepts_keep : (mine linked : Bool) (from to : ℕ) (m : Message) → T (Peer from to m) (step.Peer from m) → Enclosed (C (Peer from to m)) e (accepts mine linked link e from to m)
  accepts_keep false linked from to m x = plainly (Peer from to m) _ (r.stays (NotMine from to m) x)
  accepts_keep true false from to m x = plainly (Peer from to m) _ (r.stays (NotLinked from to m) x)
  accepts_keep true true from to m x = steps_keep (Peer from to m) (step.Peer from m) x

  saves_keep : (room : Bool) → Enclosed (C Save) e (saves_if room e)
  saves_keep true = record { same = refl; saved = inr refl; call = r.stays Saves tt }
  saves_keep false = plainly Save _ (r.stays Full tt)

  rolls_keep : (k : ℕ) (o : Option Replica) → slice_get e.saved k ≡ o → R k → Enclosed (C (Roll k)) e (rolls_to e k o)
  rolls_keep k None is x = plainly (Roll k) _ (r.stays (NotThere k) x)
  rolls_keep k (Some s) is x = plainly (Roll k) (still s) (r.rolls k s is x)

  pub call_keeps : (input : HostInput Message) → Handed e T R input → Enclosed (C input) e (called link e input)
  call_keeps Tick x = steps_keep Tick step.Tick x
  call_keeps (Peer from to m) x = accepts_keep (to == e.replica.me) (is_in e.links from) from to m x
  call_keeps (Client client number request) x = steps_keep (Client client number request) (step.Client client number request) x
  call_keeps (Join id) x = steps_keep (Join id) (step.Join id (is_in e.links id)) x
  call_keeps (Admit id) x = steps_keep (Admit id) (step.Admit id) x
  call_keeps (Remove id) x = steps_keep (Remove id) (step.Remove id) x
  call_keeps Save x = saves_keep (not (length e.saved - 1 == max_u32))
  call_keeps (Roll k) x = rolls_keep k (slice_get e.saved k) refl x
  call_keeps (Connect id) x = record { same = refl; saved = inl refl; call = r.stays (Links id) tt }
  call_keeps (Margin margin) x = steps_keep (Margin margin) (step.Margin margin) x
