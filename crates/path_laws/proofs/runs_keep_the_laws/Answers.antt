use Rattle.path_laws.proofs.Lawful.{lawful_run}
use Rattle.path_laws.proofs.runs_keep_the_laws.Goals as goal

pub returns : goal.returns
returns c near overlaps first begins moves = lawful_run near overlaps first begins moves
