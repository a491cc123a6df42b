use Rattle.std.proofs.Common.{◌-◌, length}
use Rattle.client_msgs.proofs.ReadOn.{IsLastTo}
use Rattle.client_msgs.proofs.oneof.last_member.Given as goal

abbrev pub invariant-loop-field : goal.invariant-loop-field
invariant-loop-field l = IsLastTo l.low l.high l.last l.bytes l.at

abbrev pub decreases-loop-field : goal.decreases-loop-field
decreases-loop-field l = length l.bytes - l.at
