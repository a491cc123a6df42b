use Rattle.std.proofs.Common.{refl}
use Rattle.model_rows.proofs.votes.a_vote_of_a_removed_voter.Goals as goal

pub returns : goal.returns
returns c = record { pending = refl; committed = refl; in_order = refl }
