use Rattle.std.proofs.Common.{refl}
use Rattle.model_rows.proofs.Computing.{computing}
use Rattle.model_rows.proofs.records.numbers.Goals as goal

pub returns : goal.returns
unfolding computing
returns c = record { letter = refl; empty = refl; leading_zero = refl; line_feed = refl; zero = refl; above = refl; long = refl; no_message = refl; much = refl; state = refl; margin = refl; first_of_two = refl; limit = refl; voter = refl }
