use Rattle.std.proofs.Common.{◌∙◌, ap}
use Rattle.group_world.specs.Meanings.{SaysMessage}
use Rattle.group_world.specs.Posted.{next_in}
use Rattle.group_world.proofs.Delivering.{next_same}
use Rattle.group_world.proofs.world.World.next_message.Goals as goal

pub returns-clause-model : goal.returns-clause-model
returns-clause-model c = λ m g h. c.next.ensures ∙ ap (λ ids. next_in ids c.args.self.now.post) c.as_slice.ensures.value ∙ next_same (SaysMessage m) c.args.self.now g h
