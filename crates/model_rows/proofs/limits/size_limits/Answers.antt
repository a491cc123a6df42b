use Rattle.std.proofs.Common.{refl}
use Rattle.model_rows.proofs.limits.size_limits.Goals as goal

pub returns : goal.returns
returns c = record { source = refl; request = refl; settled = refl; content = refl; batch = refl; frames = refl; line = refl }
