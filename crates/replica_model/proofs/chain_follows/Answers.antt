use Rattle.replica_model.proofs.Paths.{chain-push}
use Rattle.replica_model.proofs.chain_follows.Goals as goal

pub returns : goal.returns
returns c = chain-push
