use Rattle.std.proofs.Common.{refl}
use Rattle.model_rows.proofs.Computing.{computing}
use Rattle.model_rows.proofs.sessions.own_contents.Goals as goal

pub returns : goal.returns
unfolding computing
returns c = record { trace_is = refl; stop_is = refl; left_are = refl }
