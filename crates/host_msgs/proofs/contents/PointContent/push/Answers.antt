use Rattle.host_msgs.proofs.Shorts.{short_point}
use Rattle.host_msgs.proofs.contents.PointContent.push.Goals as goal

pub returns-clause-short : goal.returns-clause-short
returns-clause-short c = short_point c.args.self.now.index c.args.self.now.hash.0 c.push_hash.ensures.size
