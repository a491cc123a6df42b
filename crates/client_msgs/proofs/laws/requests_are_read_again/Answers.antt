use Rattle.client_msgs.proofs.RoundTrip.{request_of-canonical}
use Rattle.client_msgs.proofs.laws.requests_are_read_again.Goals as goal

pub returns : goal.returns
returns c = request_of-canonical
