use Rattle.std.proofs.Common.{refl}
use Rattle.model_rows.proofs.Computing.{computing}
use Rattle.model_rows.proofs.members.learner_takes_a_table.Goals as goal

pub returns : goal.returns
unfolding computing
returns c = refl
