use Rattle.std.proofs.Common.{refl}
use Rattle.model_rows.proofs.Computing.{computing}
use Rattle.model_rows.proofs.members.margin_counts_under_both.Goals as goal

pub returns : goal.returns
unfolding computing
returns c = refl
