use Rattle.std.proofs.Common.{refl}
use Rattle.model_rows.proofs.Computing.{computing}
use Rattle.model_rows.proofs.sessions.other_contents.Goals as goal

pub returns : goal.returns
unfolding computing
returns c = record {
  broken = record { trace_is = refl; stop_is = refl; left_are = refl };
  later = record { trace_is = refl; stop_is = refl; left_are = refl };
  missing = record { trace_is = refl; stop_is = refl; left_are = refl };
  one_too_many = record { trace_is = refl; stop_is = refl; left_are = refl };
}
