use Rattle.std.proofs.Common.{subst, None, Some}
use Rattle.group_world.specs.Cores.{FindsAnswer, HearsAnswer}
use Rattle.group_world.proofs.ClientEvents.{hear_refused, hears_does}
use Rattle.group_world.proofs.world.World.hear.Goals as goal

pub returns-in-Err-clause-does : goal.returns-in-Err-clause-does
returns-in-Err-clause-does c = λ map.
    hear_refused c.args.self.now map c.args.client.now c.args.answer c.in-Err.refusal (subst (FindsAnswer c.args.self.now.answers.items c.args.client.now c.args.answer) c.in-Err.is c.in_ok-found.ensures)

pub returns-in-Some-clause-does : goal.returns-in-Some-clause-does
returns-in-Some-clause-does c = λ map.
    hears_does c.args.self.now map c.args.client.now c.args.answer c.in-Ok.found.0 c.in-Ok.found.1 (subst (FindsAnswer c.args.self.now.answers.items c.args.client.now c.args.answer) c.in-Ok.is c.in_ok-found.ensures) _ c.hear.new.self
    (Some c.in-Some.report) (subst (HearsAnswer c.args.self.now.clients c.args.client.now c.in-Ok.found.0 c.in-Ok.found.1 c.hear.new.self) c.in-Some.is c.hear.ensures)

pub returns-in-None-clause-does : goal.returns-in-None-clause-does
returns-in-None-clause-does c = λ map.
    hears_does c.args.self.now map c.args.client.now c.args.answer c.in-Ok.found.0 c.in-Ok.found.1 (subst (FindsAnswer c.args.self.now.answers.items c.args.client.now c.args.answer) c.in-Ok.is c.in_ok-found.ensures) _ c.hear.new.self
    None (subst (HearsAnswer c.args.self.now.clients c.args.client.now c.in-Ok.found.0 c.in-Ok.found.1 c.hear.new.self) c.in-None.is c.hear.ensures)
