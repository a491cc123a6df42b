use Rattle.std.proofs.Common.{arith}
use Rattle.link_tags.proofs.Sameness.{one_more, decided}
use Rattle.link_tags.proofs.same.same_tag.Goals as goal

pub loop-i-preserved : goal.loop-i-preserved
loop-i-preserved c = one_more _ _ _ _ (omega arith) (omega arith) c.loop-i.invariant

pub returns : goal.returns
returns c = decided _ _ _ _ (omega arith) (omega arith) c.loop-i.invariant
