-- What a replica keeps is in the ranges in which it can be told, and calls keep that so.
use Rattle.std.specs.Prelude.{ℕ, ◌≤◌, IfSome, Result, IfOk, OnOk, All}
use Rattle.values.specs.declared.batch.Batch.{Batch}
use Rattle.values.specs.declared.entry.Hash.{Hash}
use Rattle.values.specs.declared.memory.Memory.{Memory}
use Rattle.group_quorum.specs.Voters.{IsId, IsSound as IsSoundConf}
use Rattle.group_quorum.specs.declared.TheConstants.{MAX_ID}
use Rattle.group_msgs.specs.Ranges.{IsIndex, IsEntryInRange}
use Rattle.table_transfer.specs.SentTable.{SentTable}
use Rattle.table_transfer.specs.TakenParts.{TakenParts}
use Rattle.replica_core.specs.declared.role.Role.{Role}
use Rattle.replica_core.specs.declared.role.Role.TheVariants.{Follower, Candidate, Leader}
use Rattle.replica_core.specs.declared.role.Leading.{Leading}
use Rattle.replica_core.specs.declared.send.Appends.{Appends}
use Rattle.replica_core.specs.declared.send.Appends.TheVariants.{Nobody, One, Everyone}
use Rattle.replica_core.specs.declared.holder.Holder.{Holder}
use Rattle.replica_core.specs.declared.learner.Learner.{Learner}
use Rattle.replica_core.specs.declared.replica.State.{State}
use Rattle.replica_core.specs.declared.replica.State.TheVariants as state
use Rattle.replica_core.specs.Ranges.{IsStepBatch}

-- what is told with each part of a table that is being sent
pub record IsSendingInRange (k : SentTable) : Type 0 where
  pub index : IsIndex k.point.index
  pub last_term : IsIndex k.last_term
  pub conf_index : k.conf_index ≤ k.point.index
  pub conf : IsSoundConf k.conf

-- a leader's learners have ids
pub record IsLeadingInRange (l : Leading) : Type 0 where
  pub learners : All IsId l.learners
  pub sendings : All (λ (k : ℕ × SentTable). IsSendingInRange k.1) l.sendings

abbrev pub IsRoleInRange : Role → Type 0
IsRoleInRange Follower = Unit {0}
IsRoleInRange (Candidate votes) = Unit {0}
IsRoleInRange (Leader l) = IsLeadingInRange l

-- its id is one, the leader that it knows is one or 0, and all that it has of its log can be told
pub record IsHolderInRange (h : Holder) : Type 0 where
  pub me : IsId h.me
  pub known : h.known ≤ MAX_ID
  pub base_term : IsIndex h.log.base.term
  pub base_conf : IsSoundConf h.log.base.conf
  pub entries : All IsEntryInRange h.log.entries
  pub role : IsRoleInRange h.role
  pub halted : IfSome h.halted (λ (d : ℕ × Hash × Hash). IsIndex d.0)

pub record IsLearnerInRange (l : Learner) : Type 0 where
  pub me : IsId l.me
  pub point : IfSome l.taking (λ (t : TakenParts). IsIndex t.point.index)

abbrev pub IsStateInRange : State → Type 0
IsStateInRange state.Spent = Unit {0}
IsStateInRange (state.Learner l) = IsLearnerInRange l
IsStateInRange (state.Holder h) = IsHolderInRange h

-- where a replica and a batch are in range, they are so after a call
abbrev pub KeepsRange : {T : Type 0} → Holder → Batch → Result T Memory → Holder → Batch → Type 0
KeepsRange before batch result after batch' =
    IsHolderInRange before → IsStepBatch batch → OnOk result (IsHolderInRange after × IsStepBatch batch')

-- who alone is to be sent an append has an id
abbrev pub IsForId : Appends → Type 0
IsForId Nobody = Unit {0}
IsForId (One v) = IsId v
IsForId Everyone = Unit {0}

-- the same of a call that says who is to be sent an append
abbrev pub ActsInRange : Holder → Batch → Result Appends Memory → Holder → Batch → Type 0
ActsInRange before batch result after batch' =
    IsHolderInRange before → IsStepBatch batch → IfOk result (λ to. IsHolderInRange after × (IsStepBatch batch' × IsForId to))
