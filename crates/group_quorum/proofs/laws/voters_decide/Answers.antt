use Rattle.group_quorum.proofs.Sharing.{voters_decide}
use Rattle.group_quorum.proofs.laws.voters_decide.Goals as goal

pub returns : goal.returns
returns c = voters_decide
