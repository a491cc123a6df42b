use Rattle.std.proofs.Common.{◌≡◌, ◌++◌, drop}
use Rattle.std.specs.Vec.Iter.{into_iter_items}
use Rattle.group_world.specs.Keeping.{letters_of}
use Rattle.group_world.proofs.keep.send_all.Given as goal

abbrev pub invariant-loop-to : goal.invariant-loop-to
invariant-loop-to l = l.post ++ letters_of l.from (drop l.to-index l.sent) (into_iter_items l.frames) ≡ l.initial.post ++ letters_of l.from l.initial.sent (into_iter_items l.initial.frames)
