use Rattle.std.proofs.Common.{◌≤◌, List, Ok, take}
use Rattle.enclave_host.specs.Fields.{Gains}
use Rattle.group_world.specs.Given.{Given, contents_in}
use Rattle.group_world.specs.Standing.{Runs}
use Rattle.group_world.specs.Starts.{StartsAll}
use Rattle.group_world.proofs.begin.start_voters.Given as goal

-- so far the first voters were started and run, and the count of faults has not fallen
abbrev pub invariant-loop-id : goal.invariant-loop-id
invariant-loop-id g l = record {
  starts : (given : List Given) × Gains (g.F.Field.answers l.initial.field) (g.F.Field.answers l.field) (contents_in given)
      × StartsAll (g.F.Field.map l.initial.field) (g.F.Field.map l.field) given l.config l.limit (take l.id-index l.id-items) (Ok tt);
  runs : Runs (g.F.Field.map l.field) (take l.id-index l.id-items);
  later : g.F.Field.faults l.initial.field ≤ g.F.Field.faults l.field;
}
