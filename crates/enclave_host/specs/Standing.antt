-- An enclave stands for the model's.
use Rattle.std.specs.Prelude.{◌≡◌, ◌≤◌, ℕ, ◌+◌, List, [], ◌∷◌, length, All, Option, Some, None, IsTrue}
use Rattle.values.specs.declared.batch.Batch.{Batch}
use Rattle.group_quorum.specs.Voters.{is_in, IsId}
use Rattle.schedule_model.specs.Reading.{max_u32}
use Rattle.replica_model.specs.Replica as model
use Rattle.attested_link.specs.Links.{is_linked}
use Rattle.replica_core.specs.declared.replica.State.{State}
use Rattle.replica_core.specs.Standing as core
use Rattle.group_model.specs.Enclave.{Enclave, Called}
use Rattle.enclave_host.specs.declared.running.Running.{Running}

-- each saved replica stands for the model's of the same number
abbrev pub SavedFor : List State → List model.Replica → Type 0
SavedFor [] [] = Unit {0}
SavedFor (r ∷ rs) (s ∷ ss) = core.StandsFor r s × SavedFor rs ss
SavedFor _ _ = ⊥

-- its replica and each saved one stand for the model's, and the same are linked
pub record RunsFor (r : Running) (e : Enclave) : Type 0 where
  pub replica : core.StandsFor r.replica e.replica
  pub links : (v : ℕ) → is_linked r.links v ≡ is_in e.links v
  pub saved : SavedFor r.saved.items e.saved

-- it is as a call leaves the model's, and the batch is that of the call
abbrev pub Becomes : Running → Batch → Called → Type 0
Becomes r batch c = RunsFor r c.enclave × (batch ≡ c.call.batch)

-- an enclave stands for a model's. A spent one stands for none
abbrev pub StandsFor : Option Running → Enclave → Type 0
StandsFor None e = ⊥
StandsFor (Some r) e = RunsFor r e

-- an earlier call wanted memory
abbrev pub IsSpent : Option Running → Type 0
IsSpent None = Unit {0}
IsSpent (Some r) = ⊥

-- What holds of every enclave that runs: none of its replicas is spent, those that are linked are ids, and a u32 numbers its
-- states from 0 on.
pub record IsSound (r : Running) : Type 0 where
  pub runs : ¬ (core.IsSpent r.replica)
  pub saved : All (λ s. ¬ (core.IsSpent s)) r.saved.items
  pub linked : (v : ℕ) → IsTrue (is_linked r.links v) → IsId v
  pub some : 1 ≤ length r.saved.items
  pub few : length r.saved.items ≤ max_u32 + 1

-- who holds a log goes on with one
abbrev pub KeepsLog : Running → Running → Type 0
KeepsLog r t = core.HoldsLog r.replica → core.HoldsLog t.replica

abbrev pub HoldsOn : Option Running → Option Running → Type 0
HoldsOn (Some r) (Some t) = KeepsLog r t
HoldsOn _ _ = Unit {0}
