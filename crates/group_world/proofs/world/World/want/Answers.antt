use Rattle.group_world.proofs.ClientEvents.{fault_does, taken_does}
use Rattle.group_world.proofs.world.World.want.Goals as goal

pub returns-in-Ok-clause-does : goal.returns-in-Ok-clause-does
returns-in-Ok-clause-does c = λ map.
    taken_does c.args.self.now map c.args.client.now c.args.want.now _ c.want.new.self c.in_ok-want.want c.in_ok-want-2.field-0 c.in-Ok.field-0 c.in_ok-want.ensures c.in-Ok.is c.in_ok-want-2.ensures

pub returns-in-Err-clause-does : goal.returns-in-Err-clause-does
returns-in-Err-clause-does c = λ map.
    fault_does c.args.self.now map c.args.client.now c.args.want.now _ c.want.new.self c.in_ok-want.want c.in_ok-want-2.field-0 c.in-Err.fault c.want_refusal.result c.in_ok-want.ensures c.in-Err.is c.in_ok-want-2.ensures
    c.want_refusal.ensures
