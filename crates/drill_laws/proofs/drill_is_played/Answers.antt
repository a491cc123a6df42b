use Rattle.drill_laws.proofs.Drills.{played}
use Rattle.drill_laws.proofs.drill_is_played.Goals as goal

pub returns : goal.returns
returns c = played
