use Rattle.group_msgs.proofs.Again.{peer_of-canonical}
use Rattle.group_msgs.proofs.laws.messages_are_read_again.Goals as goal

pub returns : goal.returns
returns c = peer_of-canonical
