use Rattle.halt_laws.proofs.Whole.{nothing_collides_of}
use Rattle.halt_laws.proofs.nothing_collides.Goals as goal

pub returns : goal.returns
returns c w = nothing_collides_of w
