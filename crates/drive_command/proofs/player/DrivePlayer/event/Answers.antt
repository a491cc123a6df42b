use Rattle.std.proofs.Common.{refl}
use Rattle.group_world.proofs.Pieces.{event_writes}
use Rattle.drive_command.proofs.Lifted.{lifts, never_failed}
use Rattle.drive_command.proofs.player.DrivePlayer.event.Goals as goal

pub returns-clause-writes : goal.returns-clause-writes
returns-clause-writes c =
    let (given, gained, writes) = c.play_event.ensures.writes in
    let e = c.args.event.now in
    lifts e c.args.self.now _ refl c.play_event.ensures.records given _ _ c.play_event.result (never_failed c.play_event.result c.play_event.ensures.cause)
    (event_writes e c.args.self.now.group.world.begun c.requires.playable _ _ _ _ given _ _ c.play_event.result writes)
