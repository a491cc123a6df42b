use Rattle.std.proofs.Common.{◌≡◌, ◌++◌}
use Rattle.replica_core.proofs.Tells.{members_between}
use Rattle.replica_core.proofs.holder.Holder.tell_members.Given as goal

abbrev pub invariant-loop-index : goal.invariant-loop-index
invariant-loop-index l = l.batch ≡ record (l.fn.batch) { members = l.fn.batch.members ++ members_between l.self.log l.above l.index }
