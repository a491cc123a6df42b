use Rattle.std.proofs.Common.{◌∙◌}
use Rattle.group_world.specs.Meanings.{SaysMessage}
use Rattle.group_world.proofs.ClosingLines.{within_same}
use Rattle.group_world.proofs.world.World.is_within.Goals as goal

pub returns-clause-model : goal.returns-clause-model
returns-clause-model c = λ m g h. c.all_bear.ensures ∙ within_same (SaysMessage m) c.args.self.now g h
