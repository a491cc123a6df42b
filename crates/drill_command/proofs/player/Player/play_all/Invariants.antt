use Rattle.std.proofs.Common.{◌++◌, List, drop}
use Rattle.values.specs.declared.event.Event.{Event}
use Rattle.schedule_model.specs.Written.{Written}
use Rattle.drill_command.specs.Drilled.{AreNext, IsLive, IsWhole, Model, Stands, to_play}
use Rattle.drill_command.proofs.player.Player.play_all.Given as goal

-- the events up to here were played
abbrev pub invariant-loop-event : goal.invariant-loop-event
invariant-loop-event l = record {
  so_far : (whole : Written Model) (rest : List Event) → IsWhole whole → Stands l.initial.self whole (to_play (l.events ++ rest)) → Stands l.self whole (to_play (drop l.event-index l.events ++ rest));
  live : IsLive l.self;
  next : AreNext l.self.world.begun (drop l.event-index l.events);
}
