use Rattle.std.proofs.Common.{refl}
use Rattle.model_rows.proofs.limits.group_limits.Goals as goal

pub returns : goal.returns
returns c = record { ids = refl; voters = refl; margin = refl; learners = refl }
