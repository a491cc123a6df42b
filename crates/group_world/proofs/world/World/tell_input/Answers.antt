use Rattle.host_inputs.specs.Inputs.{input_of}
use Rattle.group_world.proofs.Telling.{told_does}
use Rattle.group_world.proofs.world.World.tell_input.Goals as goal

pub returns-in-Ok-clause-does : goal.returns-in-Ok-clause-does
returns-in-Ok-clause-does g c =
    let (given, gained, does) = c.tell.ensures.does in
    (given, gained, told_does (input_of c.args.input.now) c.requires.told c.in-Ok.content c.in-Ok.ensures _ _ _ _ given c.args.id _ (rw c.as_slice.ensures at does))
