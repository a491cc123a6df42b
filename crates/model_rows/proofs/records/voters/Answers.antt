use Rattle.std.proofs.Common.{refl}
use Rattle.model_rows.proofs.Computing.{computing}
use Rattle.model_rows.proofs.records.voters.Goals as goal

pub returns : goal.returns
unfolding computing
returns c = record { many = refl; double = refl; few = refl }
