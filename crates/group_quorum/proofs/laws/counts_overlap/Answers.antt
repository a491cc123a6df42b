use Rattle.group_quorum.proofs.Sharing.{counts_overlap}
use Rattle.group_quorum.proofs.laws.counts_overlap.Goals as goal

pub returns : goal.returns
returns c = counts_overlap
