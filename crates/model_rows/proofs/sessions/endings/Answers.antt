use Rattle.std.proofs.Common.{refl}
use Rattle.model_rows.proofs.Computing.{computing}
use Rattle.model_rows.proofs.sessions.endings.Goals as goal

pub returns : goal.returns
unfolding computing
returns c = record { done = refl; empty = refl; cut_length = refl; cut_content = refl; no_content = refl; long_content = refl; not_begun = refl; begun_again = refl; faulty = refl }
