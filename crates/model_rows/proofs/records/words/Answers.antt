use Rattle.std.proofs.Common.{refl}
use Rattle.model_rows.proofs.Computing.{computing}
use Rattle.model_rows.proofs.records.words.Goals as goal

pub returns : goal.returns
unfolding computing
returns c = record { unknown = refl; nothing = refl; driven_alone = refl; unknown_want = refl; unknown_want_of_many = refl }
