use Rattle.halt_laws.proofs.no_halt_unchanged.Goals as goal

pub returns : goal.returns
returns c link events unchanged unrolled none = c.no_halt.ensures link events unrolled none
