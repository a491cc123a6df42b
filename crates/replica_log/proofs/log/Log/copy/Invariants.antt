use Rattle.std.proofs.Common.{◌≡◌, length, take}
use Rattle.replica_log.proofs.log.Log.copy.Given as goal

abbrev pub invariant-loop-chained : goal.invariant-loop-chained
invariant-loop-chained l = l.kept.items ≡ take (length l.yielded) l.self-inside.kept.items
