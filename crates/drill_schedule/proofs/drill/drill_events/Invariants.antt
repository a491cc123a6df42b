use Rattle.std.proofs.Common.{◌≡◌, ◌≤◌, ◌++◌}
use Rattle.schedule_model.specs.Drill.{drill_events}
use Rattle.drill_schedule.specs.Parts.{ahead}
use Rattle.drill_schedule.proofs.drill.drill_events.Given as goal

-- the events so far and those ahead are all
abbrev pub invariant-loop : goal.invariant-loop
invariant-loop l = record {
  all : l.events.items ++ ahead l.parts ≡ drill_events l.seed l.clients;
  seed : l.parts.seed ≡ l.seed;
  clients : l.parts.clients ≡ l.clients;
  next : l.parts.next ≡ l.counter;
  low : l.counter ≤ l.end;
}
