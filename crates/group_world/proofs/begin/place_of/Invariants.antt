use Rattle.std.proofs.Common.{◌≡◌, ℕ, ◌<◌, false, nat_lt, slice_index_or}
use Rattle.group_world.proofs.begin.place_of.Given as goal

abbrev pub invariant-loop-place : goal.invariant-loop-place
invariant-loop-place l = (k : ℕ) → k < l.place → nat_lt l.id (slice_index_or l.ids k 0) ≡ false
