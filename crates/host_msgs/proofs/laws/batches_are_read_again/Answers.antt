use Rattle.host_msgs.proofs.Whole.{batches_again}
use Rattle.host_msgs.proofs.laws.batches_are_read_again.Goals as goal

pub returns : goal.returns
returns c = batches_again c.items_are_read_again.ensures
