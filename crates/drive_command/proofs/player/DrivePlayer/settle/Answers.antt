use Rattle.std.proofs.Common.{refl}
use Rattle.values.specs.declared.event.Event.TheVariants as event
use Rattle.drive_command.proofs.Lifted.{lifts, never_failed}
use Rattle.drive_command.proofs.player.DrivePlayer.settle.Goals as goal

pub returns-clause-writes : goal.returns-clause-writes
returns-clause-writes c =
    let (given, gained, writes) = c.settle.ensures.writes in
    lifts (event.Settle c.args.most) c.args.self.now _ refl c.settle.ensures.records given _ _ c.settle.result (never_failed c.settle.result c.settle.ensures.cause) writes
