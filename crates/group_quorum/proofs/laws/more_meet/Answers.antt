use Rattle.group_quorum.proofs.Sharing.{more_meet}
use Rattle.group_quorum.proofs.laws.more_meet.Goals as goal

pub returns : goal.returns
returns c = more_meet
