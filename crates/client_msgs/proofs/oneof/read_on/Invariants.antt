use Rattle.std.proofs.Common.{◌-◌, length}
use Rattle.client_msgs.proofs.ReadOn.{IsReadTo}
use Rattle.client_msgs.proofs.oneof.read_on.Given as goal

abbrev pub invariant-loop-field : goal.invariant-loop-field
invariant-loop-field l = IsReadTo l.fn.start l.member l.bytes l.from l.at

abbrev pub decreases-loop-field : goal.decreases-loop-field
decreases-loop-field l = length l.bytes - l.at
