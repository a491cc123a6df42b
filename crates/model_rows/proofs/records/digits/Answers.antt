use Rattle.std.proofs.Common.{refl}
use Rattle.model_rows.proofs.Computing.{computing}
use Rattle.model_rows.proofs.records.digits.Goals as goal

pub returns : goal.returns
unfolding computing
returns c = record { client = refl; odd = refl; letter = refl; pin = refl; number_first = refl }
