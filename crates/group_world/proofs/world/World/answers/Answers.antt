use Rattle.std.proofs.Common.{rules, ◌∙◌}
use Rattle.group_world.proofs.ClosingLines.{as_many_answers}
use Rattle.group_world.proofs.world.World.answers.Goals as goal

pub returns-clause-model : goal.returns-clause-model
returns-clause-model c = λ m g h. search rules ∙ as_many_answers c.args.self.now.answers.items g.answers h.answers
