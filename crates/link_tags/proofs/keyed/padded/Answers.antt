use Rattle.std.proofs.Common.{arith}
use Rattle.link_tags.proofs.Padding.{begun, one_more, whole}
use Rattle.link_tags.proofs.keyed.padded.Goals as goal

pub loop-i-init : goal.loop-i-init
loop-i-init c = begun c.args.pad c.args.key.now

pub loop-i-preserved : goal.loop-i-preserved
loop-i-preserved c = one_more _ _ _ _ (omega arith) c.loop-i.invariant

pub returns : goal.returns
returns c = whole _ _ _ _ (omega arith) (omega arith) (omega arith) c.loop-i.invariant
