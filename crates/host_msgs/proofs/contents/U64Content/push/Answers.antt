use Rattle.host_msgs.proofs.Shorts.{short_long}
use Rattle.host_msgs.proofs.contents.U64Content.push.Goals as goal

pub returns-clause-short : goal.returns-clause-short
returns-clause-short c = short_long c.args.self.now
