use Rattle.std.proofs.Common.{refl}
use Rattle.model_rows.proofs.Computing.{computing}
use Rattle.model_rows.proofs.replication.repeat_loss_and_catch_up.Goals as goal

pub returns : goal.returns
unfolding computing
returns c = refl
