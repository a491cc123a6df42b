use Rattle.std.proofs.Common.{refl}
use Rattle.model_rows.proofs.Computing.{computing}
use Rattle.model_rows.proofs.records.events.Goals as goal

pub returns : goal.returns
unfolding computing
returns c = record { quoted = refl; marked = refl; driven = refl; greatest = refl; upper_case = refl; remark = refl; quoted_remark = refl }
