use Rattle.std.proofs.Common.{◌≡◌, take}
use Rattle.replica_core.proofs.copies.copy_sendings.Given as goal

abbrev pub invariant-loop-id : goal.invariant-loop-id
invariant-loop-id l = l.items.items ≡ take l.id-index l.sendings
