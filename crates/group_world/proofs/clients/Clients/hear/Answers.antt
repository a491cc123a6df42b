use Rattle.std.proofs.Common.{refl, subst, None, rules}
use Rattle.group_world.specs.Cores.{Cores, HearsAnswer}
use Rattle.group_world.proofs.CoresLemmas.{known_hears, seen_all, unknown_hears}
use Rattle.group_world.proofs.clients.Clients.hear.Goals as goal

pub returns-in_default : goal.returns-in_default
returns-in_default c =
    subst (λ (before : Cores). HearsAnswer before c.args.client.now c.args.number c.args.answer (seen_all c.get_mut.follows.lender-at-none.entries) None) c.self.view_is
    (unknown_hears c.self.inside.clients c.get_mut.follows.lender-at-none c.args.client.now c.args.number c.args.answer None (search rules) c.get_mut.follows.holds-at-none refl)

pub returns : goal.returns
returns c =
    subst (λ (before : Cores). HearsAnswer before c.args.client.now c.args.number c.args.answer (seen_all (c.get_mut.follows.lender c.hear.new.self).entries) c.hear.result) c.self.view_is
    (known_hears c.self.inside.clients (c.get_mut.follows.lender c.hear.new.self) c.args.client.now c.in-Some.known.now c.hear.new.self (search rules) (c.get_mut.follows.holds c.hear.new.self) c.args.number c.args.answer c.hear.result
    c.hear.ensures.core c.hear.ensures.report)
