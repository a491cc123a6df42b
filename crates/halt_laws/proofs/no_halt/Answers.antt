use Rattle.halt_laws.proofs.Kept.{no_halt_of}
use Rattle.halt_laws.proofs.no_halt.Goals as goal

pub returns : goal.returns
returns c link events unrolled none = no_halt_of c.laws_by_single_changes.ensures link events unrolled none
