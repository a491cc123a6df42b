-- How far a replica has promised and committed after a call, and what it has answered then.
use Rattle.std.specs.Prelude.{◌≡◌, ℕ}
use Rattle.values.specs.declared.batch.Batch.{Batch}
use Rattle.replica_model.specs.Replica as model
use Rattle.replica_model.specs.Call.{Call}
use Rattle.replica_model.specs.Raised.{RaisesOrStays}
use Rattle.replica_core.specs.declared.replica.State.{State}
use Rattle.replica_core.specs.declared.replica.State.TheVariants as state

-- up to where it has promised its log. One that holds none has promised nothing
abbrev pub promised_in : State → ℕ
promised_in state.Spent = 0
promised_in (state.Learner l) = 0
promised_in (state.Holder h) = h.log.promised

-- up to where it has committed it
abbrev pub committed_in : State → ℕ
committed_in state.Spent = 0
committed_in (state.Learner l) = 0
committed_in (state.Holder h) = h.log.committed

-- after the call these are the indices to which the model's call raises: of a leader that raises the greatest for which
-- the marks are enough, or what it had; and the batch answers each ticket whose index the committed one passes
pub record IsRaised (s : model.Replica) (c : Call) (after : State) (batch : Batch) : Type 0 where
  pub call : RaisesOrStays s c
  pub promised : promised_in after ≡ c.state.promised
  pub committed : committed_in after ≡ c.state.committed
  pub answers : batch.answers ≡ c.batch.answers
