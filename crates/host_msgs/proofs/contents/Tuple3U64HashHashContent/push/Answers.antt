use Rattle.host_msgs.proofs.Shorts.{short_halt}
use Rattle.host_msgs.proofs.contents.Tuple3U64HashHashContent.push.Goals as goal

pub returns-clause-short : goal.returns-clause-short
returns-clause-short c = short_halt c.args.self.now.0 c.args.self.now.1.0 c.args.self.now.2.0 c.push_hash.ensures.size c.push_hash-2.ensures.size
