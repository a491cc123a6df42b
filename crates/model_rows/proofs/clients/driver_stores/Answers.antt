use Rattle.std.proofs.Common.{refl}
use Rattle.model_rows.proofs.Computing.{computing}
use Rattle.model_rows.proofs.clients.driver_stores.Goals as goal

pub returns : goal.returns
unfolding computing
returns c = refl
