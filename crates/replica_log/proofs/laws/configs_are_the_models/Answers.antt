use Rattle.replica_log.proofs.Standing.{configs_same}
use Rattle.replica_log.proofs.laws.configs_are_the_models.Goals as goal

pub returns : goal.returns
returns c = configs_same
