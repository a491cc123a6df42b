use Rattle.group_world.specs.Closing.{closing_of}
use Rattle.group_world.proofs.Playing.{closes_adds, closes_so}
use Rattle.group_world.proofs.player.GroupPlayerPlayer.close.Goals as goal

pub returns-clause-adds : goal.returns-clause-adds
returns-clause-adds g c =
    let p = c.args.self.now in (
      closing_of p.world,
      record { text_is = closes_so p.world p.records (g.F.Field.map p.field) },
      closes_adds (closing_of p.world) _ _ c.close.result c.close.ensures.ok c.close.ensures.err,
    )
