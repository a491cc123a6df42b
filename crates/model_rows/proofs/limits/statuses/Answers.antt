use Rattle.std.proofs.Common.{refl}
use Rattle.model_rows.proofs.limits.statuses.Goals as goal

pub returns : goal.returns
returns c = record { ok = refl; missing = refl; mismatch = refl; error = refl }
