use Rattle.std.proofs.Common.{[], Ok}
use Rattle.group_world.specs.Missing.{IsThere}
use Rattle.group_world.specs.Plays.{Hands}
use Rattle.group_world.proofs.Delivering.{deliver_refused, deliver_told}
use Rattle.group_world.proofs.Happening.{gains_none}
use Rattle.group_world.proofs.world.World.deliver.Goals as goal

pub returns-in-Ok-found-clause-does : goal.returns-in-Ok-found-clause-does
returns-in-Ok-found-clause-does g c =
    let (given, gained, does) = c.tell.ensures.does in
    let hands : Hands c.args.self.now c.args.number (Ok (c.in-Ok-found.to, c.in-Ok-found.input)) = rw c.in-Ok-found.is at c.in-Ok.ensures.hands in
    let there : IsThere c.args.self.now.post c.args.number = rw c.in-Ok-found.is at c.in-Ok.ensures.there in (
      given,
      gained,
      deliver_told c.args.self.now c.tell.new.self c.mark.new.self _ (g.F.Field.map c.args.field.now) (g.F.Field.map c.tell.new.field) given c.args.number c.in-Ok-found.to c.in-Ok-found.input c.tell.result hands there c.mark.ensures
          (rw c.as_slice.ensures at does),
    )

pub returns-in-Err-found-clause-does : goal.returns-in-Err-found-clause-does
returns-in-Err-found-clause-does g c = ([], gains_none _, deliver_refused c.args.self.now (g.F.Field.map c.args.field.now) c.args.number c.in-Err-found.refusal (rw c.in-Err-found.is at c.in-Ok.ensures.hands))
