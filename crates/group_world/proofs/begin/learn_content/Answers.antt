use Rattle.std.proofs.Common.{rules}
use Rattle.group_world.proofs.Hellos.{found_is, learn_sound}
use Rattle.group_world.proofs.begin.learn_content.Goals as goal

pub content_of-requires-clause-sound : goal.content_of-requires-clause-sound
content_of-requires-clause-sound c =
    learn_sound c.args.id c.args.linked.now c.unwrap-linked.result c.requires.own c.requires.ids c.requires.rising (found_is _ c.args.linked.now c.unwrap-linked.result c.in_ok-from_slice.ensures (search rules))
