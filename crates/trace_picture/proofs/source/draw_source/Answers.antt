use Rattle.std.proofs.Common.{refl}
use Rattle.trace_picture.proofs.source.draw_source.Goals as goal

pub returns-in-Fault-clause-cause : goal.returns-in-Fault-clause-cause
returns-in-Fault-clause-cause g c = λ e. c.in-Fault.ensures.cause refl
