use Rattle.std.proofs.Common.{◌≡◌, ◌-◌, ◌≤◌, List, length}
use Rattle.proto_wire.specs.Fields.{Field}
use Rattle.proto_wire.specs.Reading.{u64_of}
use Rattle.group_msgs.specs.Reading.{member_fault, member_of}
use Rattle.group_msgs.specs.Gathered.{IsLast}
use Rattle.group_msgs.proofs.Walk.{IsWalkedTo}
use Rattle.group_msgs.proofs.gather.gather.Given as goal

abbrev pub invariant-loop-gathered : goal.invariant-loop-gathered
invariant-loop-gathered l = record {
  count : l.gathered.member.listed.count ≤ l.at;
  walked : IsWalkedTo member_fault (λ (gone : List Field). (l.gathered.term ≡ u64_of 1 gone) × IsLast l.gathered.member (member_of gone)) l.bytes 0 l.at;
}

abbrev pub decreases-loop-gathered : goal.decreases-loop-gathered
decreases-loop-gathered l = length l.bytes - l.at
