use Rattle.drill_laws.proofs.Drills.{comes_to}
use Rattle.drill_laws.proofs.drill_comes_to.Goals as goal

pub returns : goal.returns
returns c = comes_to
