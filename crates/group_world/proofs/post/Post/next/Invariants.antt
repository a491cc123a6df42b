use Rattle.std.proofs.Common.{◌≡◌, take}
use Rattle.group_world.specs.Posted.{next_in}
use Rattle.group_world.proofs.post.Post.next.Given as goal

abbrev pub invariant-loop-id : goal.invariant-loop-id
invariant-loop-id l = l.next ≡ next_in (take l.id-index l.running) l.self
