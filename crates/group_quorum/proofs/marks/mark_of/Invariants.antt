use Rattle.std.proofs.Common.{◌≡◌, drop}
use Rattle.group_quorum.specs.Marks.{mark_of}
use Rattle.group_quorum.proofs.marks.mark_of.Given as goal

abbrev pub invariant-loop-id : goal.invariant-loop-id
invariant-loop-id l = mark_of (drop l.id-index l.marks) l.voter ≡ mark_of l.marks l.voter
