use Rattle.headline_laws.proofs.Told.{no_halt_line_of, driven_none_of}
use Rattle.headline_laws.proofs.no_halt_line.Goals as goal

pub returns-clause-played : goal.returns-clause-played
returns-clause-played c link bytes unrolled none = no_halt_line_of c.schedules_are_runs.ensures.played c.no_halt.ensures link bytes unrolled none

pub returns-clause-driven : goal.returns-clause-driven
returns-clause-driven c link bytes unrolled none = driven_none_of c.schedules_are_runs.ensures.driven c.no_halt.ensures link bytes unrolled none
