use Rattle.std.proofs.Common.{refl}
use Rattle.model_rows.proofs.Computing.{computing}
use Rattle.model_rows.proofs.endings.one_replica_too_many.Goals as goal

pub returns : goal.returns
unfolding computing
returns c = refl
