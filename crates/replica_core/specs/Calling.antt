-- A call of a replica as far as it has come, and the model's call for which it stands.
use Rattle.std.specs.Prelude.{◌≡◌, ℕ, cond, [], ◌∷◌, ◌++◌, Result, IfOk}
use Rattle.values.specs.declared.batch.Batch.{Batch}
use Rattle.values.specs.declared.memory.Memory.{Memory}
use Rattle.replica_model.specs.Replica as model
use Rattle.replica_model.specs.Peers.{peers, progress_of, with_progress}
use Rattle.replica_model.specs.Call.{Call}
use Rattle.replica_model.specs.Send.{with_sent, can_append, sent_on, append_from}
use Rattle.replica_model.specs.Linked.{sha_link}
use Rattle.replica_core.specs.declared.role.Leading.{Leading}
use Rattle.replica_core.specs.declared.send.Appends.{Appends}
use Rattle.replica_core.specs.declared.send.Appends.TheVariants.{Nobody, One, Everyone}
use Rattle.replica_core.specs.declared.holder.Holder.{Holder}
use Rattle.replica_core.specs.Standing.{HoldsFor, LeadsAs}

-- the same are to be sent an append at the end of the call
abbrev pub SendsTo : Appends → Call → Type 0
SendsTo Nobody c = c.appends ≡ []
SendsTo (One v) c = c.appends ≡ v ∷ []
SendsTo Everyone c = (l : model.Leading) × ((c.state.role ≡ model.Leader l) × (c.appends ≡ peers c.state l))

-- a replica and a batch stand for a call of the model: the replica for its state, and the batch is its batch
pub record Reaches (h : Holder) (batch : Batch) (c : Call) : Type 0 where
  pub stands : HoldsFor h c.state
  pub batch_is : batch ≡ (with_sent c).batch

-- so do they before the end of the call, and the same are to be sent an append
pub record Does (h : Holder) (batch : Batch) (to : Appends) (c : Call) : Type 0 where
  pub reaches : Reaches h batch c
  pub sends : SendsTo to c

-- what a rule does is what the model's does, of each model replica for which the replica stands
abbrev pub Follows : Holder → Holder → Batch → Result Appends Memory → (model.Replica → Call) → Type 0
Follows before after batch result rule = (s : model.Replica) → HoldsFor before s → IfOk result (λ to. Does after batch to (rule s))

-- a leader's peer is sent its append as the model's is
pub record SendsAppend (s : model.Replica) (m : model.Leading) (v : ℕ) (l : Leading) (before after : Batch) : Type 0 where
  pub leads : LeadsAs s.limit s.first l (cond (can_append s m v) (with_progress m v (sent_on s.path (progress_of m v))) m)
  pub batch_is : after ≡ record before {
    sent = before.sent ++ cond (can_append s m v) ((v, append_from sha_link s (progress_of m v).next) ∷ []) [];
  }
