use Rattle.std.proofs.Common.{◌≡◌, ◌-◌, List, length, None}
use Rattle.proto_wire.specs.Fields.{Field}
use Rattle.group_msgs.specs.Known.{known_of}
use Rattle.group_msgs.specs.Gathered.{seen}
use Rattle.group_msgs.proofs.Walk.{IsWalkedTo}
use Rattle.group_msgs.proofs.scalars.Scalars.read.Given as goal

abbrev pub invariant-loop-field : goal.invariant-loop-field
invariant-loop-field l = IsWalkedTo (λ _. None) (λ (fs : List Field). seen l.self ≡ known_of fs) l.bytes l.from l.at

abbrev pub decreases-loop-field : goal.decreases-loop-field
decreases-loop-field l = length l.bytes - l.at
