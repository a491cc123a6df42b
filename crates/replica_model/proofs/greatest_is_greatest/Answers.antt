use Rattle.replica_model.proofs.Greatest.{greatest}
use Rattle.replica_model.proofs.greatest_is_greatest.Goals as goal

pub returns : goal.returns
returns c = greatest
