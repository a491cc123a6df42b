use Rattle.replica_model.proofs.Raised.{raised}
use Rattle.replica_model.proofs.steps_raise_to_the_greatest.Goals as goal

pub returns : goal.returns
returns c = raised
