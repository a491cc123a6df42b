use Rattle.replica_model.proofs.Paths.{conf-push}
use Rattle.replica_model.proofs.conf_follows.Goals as goal

pub returns : goal.returns
returns c = conf-push
