use Rattle.std.proofs.Common.{◌≡◌, ℕ, ◌<◌, false, nat_le, slice_index_or}
use Rattle.replica_core.proofs.by_replica.ByReplica.place_of.Given as goal

abbrev pub invariant-loop-place : goal.invariant-loop-place
invariant-loop-place g l = (d : ℕ × g.row.T.Denot) (k : ℕ) → k < l.place → nat_le l.id (slice_index_or l.item-items k d).0 ≡ false
