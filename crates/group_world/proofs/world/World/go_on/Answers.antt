use Rattle.std.proofs.Common.{[]}
use Rattle.group_world.proofs.Happening.{gains_none}
use Rattle.group_world.proofs.world.World.go_on.Goals as goal

pub returns-in-Lose-clause-does : goal.returns-in-Lose-clause-does
returns-in-Lose-clause-does g c = ([], gains_none _, rw c.in-Lose.is (c.lose.ensures.does (g.F.Field.map c.args.field.now)))

pub returns-in-Ok-clause-does : goal.returns-in-Ok-clause-does
returns-in-Ok-clause-does g c = ([], gains_none _, rw c.in-Want.is (c.in-Ok.ensures.does (g.F.Field.map c.args.field.now)))

pub returns-in-Ok-hear-clause-does : goal.returns-in-Ok-hear-clause-does
returns-in-Ok-hear-clause-does g c = ([], gains_none _, rw c.in-Hear.is (c.in-Ok-hear.ensures.does (g.F.Field.map c.args.field.now)))
