use Rattle.std.proofs.Common.{◌≡◌, ◌-◌, ◌≤◌, ◌++◌, List, length}
use Rattle.proto_wire.specs.Fields.{Field}
use Rattle.group_msgs.specs.Reading.{listed_fault}
use Rattle.group_msgs.specs.Gathered.{IsRun}
use Rattle.group_msgs.proofs.Walk.{IsWalkedTo}
use Rattle.group_msgs.proofs.gather.Member.read_on.Given as goal

abbrev pub invariant-loop-field : goal.invariant-loop-field
invariant-loop-field l = record {
  number : l.self.number ≡ l.fn.self.number;
  count : l.self.listed.count ≤ l.at;
  walked : IsWalkedTo (listed_fault l.fn.self.number) (λ (gone : List Field). (fs : List Field) → IsRun l.fn.self l.fn.self.number fs → IsRun l.self l.fn.self.number (fs ++ gone)) l.bytes l.from l.at;
}

abbrev pub decreases-loop-field : goal.decreases-loop-field
decreases-loop-field l = length l.bytes - l.at
