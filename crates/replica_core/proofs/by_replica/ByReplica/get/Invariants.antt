use Rattle.std.proofs.Common.{◌≡◌, ℕ, ◌<◌, slice_index_or}
use Rattle.replica_core.proofs.by_replica.ByReplica.get.Given as goal

abbrev pub invariant-loop-key : goal.invariant-loop-key
invariant-loop-key g l = (d : ℕ × g.row.T.Denot) (k : ℕ) → k < l.key-index → (slice_index_or l.key-items k d).0 ≡ l.id → ⊥
