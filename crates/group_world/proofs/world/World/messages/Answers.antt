use Rattle.std.proofs.Common.{◌∙◌}
use Rattle.group_world.specs.Meanings.{SaysMessage}
use Rattle.group_world.proofs.ClosingLines.{as_many_letters}
use Rattle.group_world.proofs.world.World.messages.Goals as goal

pub returns-clause-model : goal.returns-clause-model
returns-clause-model c = λ m g h. c.count.ensures ∙ as_many_letters (SaysMessage m) c.args.self.now.post g.messages h.letters
