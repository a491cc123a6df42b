use Rattle.std.proofs.Common.{sym, ap, subst, ◌∙◌, Ok}
use Rattle.schedule_model.specs.Client.{Core, wanted}
use Rattle.values.specs.declared.ids.ClientId.{ClientId}
use Rattle.group_model.specs.Group.{core_of}
use Rattle.group_world.specs.Cores.{Cores, TakesWant}
use Rattle.group_world.proofs.CoresLemmas.{first_wants, seen_all}
use Rattle.group_world.proofs.clients.Clients.want_first.Goals as goal

pub returns-in-Ok-insert : goal.returns-in-Ok-insert
returns-in-Ok-insert c =
    subst (λ (before : Cores). TakesWant {T = Unit {0}} before c.args.client.now c.args.want (seen_all c.insert.new.self.entries) (Ok (Ok tt))) c.self.view_is
    (first_wants c.self.inside.clients c.insert.new.self c.args.client.now c.args.want c.want.new.self _ (ap (λ (cs : Cores). core_of cs c.args.client.now) c.self.view_is ∙ c.requires)
    (sym (ap (λ (x : ClientId × Core). wanted x.1 c.args.want) c.new-first.ensures) ∙ c.in-Ok.ensures.taken) c.in-Ok-insert.ensures.updates c.in-Ok-insert.ensures.old c.in-Ok-insert.ensures.len)
