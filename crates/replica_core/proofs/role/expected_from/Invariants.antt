use Rattle.std.proofs.Common.{◌≡◌, ℕ, map, take}
use Rattle.replica_model.specs.declared.Progress.{Progress}
use Rattle.replica_core.proofs.role.expected_from.Given as goal

abbrev pub invariant-loop-peer : goal.invariant-loop-peer
invariant-loop-peer l = l.items.items ≡ map {B = ℕ × Progress} (λ v. (v, record { next = l.next; mark = 0; promised = 0 })) (take l.peer-index l.peers)
