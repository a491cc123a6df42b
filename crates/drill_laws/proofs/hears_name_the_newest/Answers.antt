use Rattle.drill_laws.proofs.Drills.{newest}
use Rattle.drill_laws.proofs.hears_name_the_newest.Goals as goal

pub returns : goal.returns
returns c = newest
