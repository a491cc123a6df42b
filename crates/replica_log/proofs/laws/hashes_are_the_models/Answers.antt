use Rattle.replica_log.proofs.Standing.{hash_at_model}
use Rattle.replica_log.proofs.laws.hashes_are_the_models.Goals as goal

pub returns : goal.returns
returns c = λ link w s h. hash_at_model link w s h
