use Rattle.replica_model.proofs.Counted.{voters_counted_are}
use Rattle.replica_model.proofs.voters_counted_are.Goals as goal

pub returns : goal.returns
returns c = voters_counted_are
