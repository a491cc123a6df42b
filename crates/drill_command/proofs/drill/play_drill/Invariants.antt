use Rattle.std.proofs.Common.{◌≡◌, ◌≤◌}
use Rattle.replica_model.specs.Linked.{sha_link}
use Rattle.trace_model.specs.Summary.{drill_played}
use Rattle.drill_schedule.specs.Parts.{ahead}
use Rattle.drill_command.specs.Drilled.{AreNext, IsLive, Stands, to_play}
use Rattle.drill_command.proofs.drill.play_drill.Given as goal

-- the parts up to here were played
abbrev pub invariant-loop : goal.invariant-loop
invariant-loop l = record {
  stands : Stands l.player (drill_played sha_link l.seed l.clients) (to_play (ahead l.parts));
  live : IsLive l.player;
  next : AreNext l.player.world.begun (ahead l.parts);
  clients : l.parts.clients ≡ l.clients;
  place : l.parts.next ≡ l.counter;
  low : l.counter ≤ l.end;
}
