use Rattle.host_msgs.proofs.Shorts.{short_word}
use Rattle.host_msgs.proofs.contents.U32Content.push.Goals as goal

pub returns-clause-short : goal.returns-clause-short
returns-clause-short c = short_word c.args.self.now
