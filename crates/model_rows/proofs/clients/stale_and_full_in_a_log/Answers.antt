use Rattle.std.proofs.Common.{refl}
use Rattle.model_rows.proofs.Computing.{computing}
use Rattle.model_rows.proofs.clients.stale_and_full_in_a_log.Goals as goal

pub returns : goal.returns
unfolding computing
returns c = refl
