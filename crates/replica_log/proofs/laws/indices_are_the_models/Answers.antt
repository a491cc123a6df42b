use Rattle.replica_log.proofs.Standing.{indices_same}
use Rattle.replica_log.proofs.laws.indices_are_the_models.Goals as goal

pub returns : goal.returns
returns c = indices_same
