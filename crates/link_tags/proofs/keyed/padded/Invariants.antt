use Rattle.link_tags.proofs.Padding.{PaddedUpTo}
use Rattle.link_tags.proofs.keyed.padded.Given as goal

abbrev pub invariant-loop-i : goal.invariant-loop-i
invariant-loop-i l = PaddedUpTo l.pad l.i l.key l.block
