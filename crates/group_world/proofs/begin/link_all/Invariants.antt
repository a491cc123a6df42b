use Rattle.std.proofs.Common.{◌≤◌, ◌∷◌, List, Ok, take}
use Rattle.enclave_host.specs.Fields.{Gains}
use Rattle.group_world.specs.Given.{Given, contents_in}
use Rattle.group_world.specs.Standing.{Runs}
use Rattle.group_world.specs.Starts.{LinksAll}
use Rattle.group_world.proofs.begin.link_all.Given as goal

-- so far the first replicas were linked, the same run, and the count of faults has not fallen
abbrev pub invariant-loop-other : goal.invariant-loop-other
invariant-loop-other g l = record {
  links : (given : List Given) × Gains (g.F.Field.answers l.initial.field) (g.F.Field.answers l.field) (contents_in given)
      × LinksAll (g.F.Field.map l.initial.field) (g.F.Field.map l.field) given l.id (take l.other-index l.running) (Ok tt);
  runs : Runs (g.F.Field.map l.field) (l.id ∷ l.running);
  later : g.F.Field.faults l.initial.field ≤ g.F.Field.faults l.field;
}
