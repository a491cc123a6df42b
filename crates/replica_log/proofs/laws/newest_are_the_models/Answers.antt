use Rattle.replica_log.proofs.Standing.{conf_model, conf_index_model}
use Rattle.replica_log.proofs.laws.newest_are_the_models.Goals as goal

pub returns : goal.returns
returns c = λ link w s h i le. record { conf = conf_model link w s h i le; index = conf_index_model link w s h i le }
