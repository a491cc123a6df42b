use Rattle.std.proofs.Common.{refl}
use Rattle.model_rows.proofs.Computing.{computing}
use Rattle.model_rows.proofs.clients.one_client.Goals as goal

pub returns : goal.returns
unfolding computing
returns c = refl
