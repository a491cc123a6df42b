use Rattle.std.proofs.Common.{◌∙◌}
use Rattle.drive_command.proofs.Opening.{live_new, takes_new}
use Rattle.drive_command.proofs.player.DrivePlayer.new.Goals as goal

pub returns-clause-takes : goal.returns-clause-takes
returns-clause-takes c = takes_new _ c.new-2.ensures.new (c.new-2.ensures.field ∙ c.new.ensures) c.new-2.ensures.records c.new-3.ensures

pub returns-clause-live : goal.returns-clause-live
returns-clause-live c = live_new c.new-2.result.world c.new-2.result.field c.new-2.ensures.new (c.new-2.ensures.field ∙ c.new.ensures) c.new-2.ensures.within
