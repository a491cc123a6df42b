use Rattle.std.proofs.Common.{refl}
use Rattle.model_rows.proofs.Computing.{computing}
use Rattle.model_rows.proofs.sessions.tags.Goals as goal

pub returns : goal.returns
unfolding computing
returns c = record { right = refl; cut = refl; wrong = refl; second = refl }
