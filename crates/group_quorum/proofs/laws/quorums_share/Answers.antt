use Rattle.group_quorum.proofs.Sharing.{quorums_share}
use Rattle.group_quorum.proofs.laws.quorums_share.Goals as goal

pub returns : goal.returns
returns c = quorums_share
