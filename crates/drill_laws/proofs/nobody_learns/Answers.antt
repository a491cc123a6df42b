use Rattle.drill_laws.proofs.Drills.{none_learns}
use Rattle.drill_laws.proofs.nobody_learns.Goals as goal

pub returns : goal.returns
returns c = none_learns
