use Rattle.host_msgs.proofs.Shorts.{short_refusal}
use Rattle.host_msgs.specs.Refusals.{refusal_numbers}
use Rattle.host_msgs.proofs.contents.RefusalContent.push.Goals as goal

pub returns-clause-short : goal.returns-clause-short
returns-clause-short c = short_refusal (refusal_numbers c.args.self.now)
