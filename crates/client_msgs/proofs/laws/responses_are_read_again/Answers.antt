use Rattle.client_msgs.proofs.RoundTrip.{response_of-canonical}
use Rattle.client_msgs.proofs.laws.responses_are_read_again.Goals as goal

pub returns : goal.returns
returns c = response_of-canonical
