use Rattle.std.proofs.Common.{ap, ◌∙◌}
use Rattle.group_model.specs.Group.{core_of}
use Rattle.group_world.specs.Cores.{Cores}
use Rattle.group_world.proofs.CoresLemmas.{gives_core}
use Rattle.group_world.proofs.clients.Clients.get.Goals as goal

pub returns : goal.returns
returns c = gives_core c.self.inside.clients c.self.inside.clients c.args.client.now c.get.result c.get.ensures.value ∙ ap (λ (cs : Cores). core_of cs c.args.client.now) c.self.view_is
