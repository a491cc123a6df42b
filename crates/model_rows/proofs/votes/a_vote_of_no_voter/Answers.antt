use Rattle.std.proofs.Common.{refl}
use Rattle.model_rows.proofs.votes.a_vote_of_no_voter.Goals as goal

pub returns : goal.returns
returns c = record { stands = refl; left = refl }
