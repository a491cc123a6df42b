use Rattle.std.proofs.Common.{rules}
use Rattle.group_world.proofs.Rolling.{notes_one}
use Rattle.group_world.proofs.world.World.note_roll.Goals as goal

pub returns-in_ok-push-clause-notes : goal.returns-in_ok-push-clause-notes
returns-in_ok-push-clause-notes c = rw c.in-Replied.is (notes_one c.args.self.now c.in-Replied.id c.in-Replied.batch _ _ (search rules) c.in_ok-push.ensures.items)
