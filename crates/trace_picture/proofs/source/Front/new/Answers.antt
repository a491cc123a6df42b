use Rattle.std.proofs.Common.{refl}
use Rattle.trace_picture.proofs.Taking.{none_taken}
use Rattle.trace_picture.proofs.source.Front.new.Goals as goal

pub returns-clause-stands : goal.returns-clause-stands
returns-clause-stands c = none_taken _ refl c.new-2.ensures.items
