use Rattle.std.proofs.Common.{◌≡◌, map, take, drop, None}
use Rattle.group_msgs.specs.Gathered.{seen}
use Rattle.group_msgs.specs.Rules.{rows_fault}
use Rattle.group_msgs.specs.Values.{row_of}
use Rattle.group_msgs.proofs.read.rows.Given as goal

abbrev pub invariant-loop-scalars : goal.invariant-loop-scalars
invariant-loop-scalars l = record {
  none : rows_fault (map seen (drop l.scalars-index l.listed)) ≡ None;
  made : l.rows.items ≡ map row_of (map seen (take l.scalars-index l.listed));
}
