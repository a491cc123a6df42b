use Rattle.std.proofs.Common.{[], rules}
use Rattle.group_world.proofs.ClientEvents.{say_does, say_refused}
use Rattle.group_world.proofs.Happening.{gains_none}
use Rattle.group_world.proofs.world.World.say.Goals as goal

pub returns-in-Err-clause-does : goal.returns-in-Err-clause-does
returns-in-Err-clause-does g c = ([], gains_none _, tt)

pub returns-in_default-clause-does : goal.returns-in_default-clause-does
returns-in_default-clause-does g c = ([], gains_none _, say_refused c.args.self.now (g.F.Field.map c.args.field.now) c.args.client.now c.args.replica (search rules))

pub returns-clause-does : goal.returns-clause-does
returns-clause-does g c =
    let (given, gained, does) = c.hand_request.ensures.does in (
      given,
      gained,
      say_does c.args.self.now (g.F.Field.map c.args.field.now) c.args.client.now c.args.replica (c.in-Some.number, c.in-Some.request) (search rules) c.hand_request.new.self (g.F.Field.map c.hand_request.new.field) given c.hand_request.result (rw c.as_slice.ensures at does),
    )
