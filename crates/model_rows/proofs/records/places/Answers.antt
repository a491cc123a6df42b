use Rattle.std.proofs.Common.{refl}
use Rattle.model_rows.proofs.Computing.{computing}
use Rattle.model_rows.proofs.records.places.Goals as goal

pub returns : goal.returns
unfolding computing
returns c = record { no_begin = refl; settle = refl; second_begin = refl }
