use Rattle.std.proofs.Common.{refl}
use Rattle.model_rows.proofs.limits.replica_limits.Goals as goal

pub returns : goal.returns
returns c = record { top = refl; busy = refl; kept = refl; entries = refl; rows = refl; part = refl; parts = refl }
