use Rattle.std.proofs.Common.{refl}
use Rattle.model_rows.proofs.Computing.{computing}
use Rattle.model_rows.proofs.audits.accepted.Goals as goal

pub returns : goal.returns
unfolding computing
returns c = record { whole = refl; stopped = refl; refused_roll = refl; empty = refl }
