use Rattle.host_msgs.proofs.Again.{items_again}
use Rattle.host_msgs.proofs.laws.items_are_read_again.Goals as goal

pub returns : goal.returns
returns c = items_again c.responses_are_read_again.ensures
