use Rattle.link_tags.proofs.Sameness.{SameUpTo}
use Rattle.link_tags.proofs.same.same_tag.Given as goal

abbrev pub invariant-loop-i : goal.invariant-loop-i
invariant-loop-i l = SameUpTo l.difference l.i l.left l.right
