use Rattle.group_quorum.proofs.Sharing.{quorums_outlast}
use Rattle.group_quorum.proofs.laws.quorums_outlast.Goals as goal

pub returns : goal.returns
returns c = quorums_outlast
