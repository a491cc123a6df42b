use Rattle.std.proofs.Common.{refl}
use Rattle.model_rows.proofs.Computing.{computing}
use Rattle.model_rows.proofs.records.counts.Goals as goal

pub returns : goal.returns
unfolding computing
returns c = record { short = refl; long = refl; short_want = refl; short_begin = refl; second_begin = refl }
