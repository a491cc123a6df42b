use Rattle.std.proofs.Common.{subst, Ok, rules}
use Rattle.group_world.specs.Cores.{Cores, TakesWant}
use Rattle.group_world.proofs.CoresLemmas.{known_wants, no_core, seen_all}
use Rattle.group_world.proofs.clients.Clients.want.Goals as goal

pub want_first-requires : goal.want_first-requires
want_first-requires c = no_core c.self.inside.clients _ c.args.client.now (search rules) c.get_mut.follows.holds-at-none

pub returns-in-Some : goal.returns-in-Some
returns-in-Some c =
    subst (λ (before : Cores). TakesWant before c.args.client.now c.args.want (seen_all (c.get_mut.follows.lender c.want.new.self).entries) (Ok c.want.result)) c.self.view_is
    (known_wants c.self.inside.clients (c.get_mut.follows.lender c.want.new.self) c.args.client.now c.in-Some.known.now c.want.new.self (search rules) (c.get_mut.follows.holds c.want.new.self) c.args.want c.want.result
    c.want.ensures.taken c.want.ensures.fault c.want.ensures.unchanged)
