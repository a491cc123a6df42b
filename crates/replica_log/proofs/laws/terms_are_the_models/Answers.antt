use Rattle.replica_log.proofs.Standing.{term_at_model}
use Rattle.replica_log.proofs.laws.terms_are_the_models.Goals as goal

pub returns : goal.returns
returns c = term_at_model
