-- What stands for something is not spent.
use Rattle.std.proofs.Common.{Option, Some, None}
use Rattle.replica_model.specs.Replica as model
use Rattle.replica_core.specs.declared.replica.State.{State}
use Rattle.replica_core.specs.declared.replica.State.TheVariants as state
use Rattle.replica_core.specs.Standing as core
use Rattle.group_model.specs.Enclave.{Enclave}
use Rattle.enclave_host.specs.declared.running.Running.{Running}
use Rattle.enclave_host.specs.Standing.{StandsFor, IsSpent}

pub not_spent : (r : State) (s : model.Replica) → core.StandsFor r s → ¬ (core.IsSpent r)
not_spent state.Spent s stands spent = stands
not_spent (state.Learner l) s stands spent = spent
not_spent (state.Holder h) s stands spent = spent

pub enclave_not_spent : (r : Option Running) (e : Enclave) → StandsFor r e → ¬ (IsSpent r)
enclave_not_spent None e stands spent = stands
enclave_not_spent (Some r) e stands spent = spent
