use Rattle.std.proofs.Common.{refl}
use Rattle.model_rows.proofs.Computing.{computing}
use Rattle.model_rows.proofs.audits.refused.Goals as goal

pub returns : goal.returns
unfolding computing
returns c = record { twice = refl; gap = refl; response = refl; number = refl; log = refl; rolled = refl; no_end = refl; late = refl; second_begin = refl; no_begin = refl }
