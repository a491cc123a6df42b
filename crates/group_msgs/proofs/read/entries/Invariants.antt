use Rattle.std.proofs.Common.{◌≡◌, map, take, drop, None}
use Rattle.group_msgs.specs.Gathered.{seen}
use Rattle.group_msgs.specs.Rules.{entries_fault}
use Rattle.group_msgs.specs.Values.{entry_of}
use Rattle.group_msgs.proofs.read.entries.Given as goal

abbrev pub invariant-loop-scalars : goal.invariant-loop-scalars
invariant-loop-scalars l = record {
  none : entries_fault l.scalars-index (map seen (drop l.scalars-index l.listed)) ≡ None;
  made : l.entries.items ≡ map entry_of (map seen (take l.scalars-index l.listed));
}
