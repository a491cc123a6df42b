use Rattle.trace_laws.proofs.Contents.{trace_from_its_contents}
use Rattle.trace_laws.proofs.trace_from_its_contents.Goals as goal

pub returns : goal.returns
returns c = trace_from_its_contents
