use Rattle.group_world.specs.Closing.{closing_of}
use Rattle.group_world.proofs.Playing.{closes_adds}
use Rattle.drive_command.proofs.Records.{closes_so}
use Rattle.drive_command.proofs.player.DrivePlayerPlayer.close.Goals as goal

pub returns-clause-adds : goal.returns-clause-adds
returns-clause-adds c =
    let p = c.args.self.now in (
      closing_of p.group.world,
      record { text_is = λ fails d taken here. closes_so p d taken here },
      closes_adds (closing_of p.group.world) _ _ c.close.result c.close.ensures.ok c.close.ensures.err,
    )
