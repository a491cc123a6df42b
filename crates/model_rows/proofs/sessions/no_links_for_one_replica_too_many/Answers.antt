use Rattle.std.proofs.Common.{refl}
use Rattle.model_rows.proofs.Computing.{computing}
use Rattle.model_rows.proofs.sessions.no_links_for_one_replica_too_many.Goals as goal

pub returns : goal.returns
unfolding computing
returns c = record { given = refl; taken = record { trace_is = refl; stop_is = refl; left_are = refl }; one_too_many = record { trace_is = refl; stop_is = refl; left_are = refl } }
