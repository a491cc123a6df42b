use Rattle.std.proofs.Common.{refl, arith}
use Rattle.group_msgs.proofs.MemberLemmas.{IsRun-begin}
use Rattle.group_msgs.proofs.gather.Member.begin.Goals as goal

pub returns-then-self-number-clause-run : goal.returns-then-self-number-clause-run
returns-then-self-number-clause-run c last was =
    IsRun-begin c.args.self.now (record { number = c.args.number; scalars = c.empty-self.result; listed = c.clear.new.self }) c.args.number last c.if-self-number.true was c.requires.low c.requires.high refl c.empty-self.ensures c.clear.ensures

pub returns-then-self-number-clause-count : goal.returns-then-self-number-clause-count
returns-then-self-number-clause-count c = omega (arith, (c.clear.ensures 0).count)
