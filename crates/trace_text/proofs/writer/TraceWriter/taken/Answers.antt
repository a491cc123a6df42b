use Rattle.trace_text.proofs.Lists.{puts_one}
use Rattle.trace_text.proofs.writer.TraceWriter.taken.Goals as goal

pub returns-in-Some : goal.returns-in-Some
returns-in-Some c = rw c.in-Some.is (puts_one _ (rw c.small.ensures at c.line.ensures))
