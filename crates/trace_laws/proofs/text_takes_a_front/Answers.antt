use Rattle.trace_laws.proofs.Taken.{text_takes_a_front}
use Rattle.trace_laws.proofs.text_takes_a_front.Goals as goal

pub returns : goal.returns
returns c = text_takes_a_front
