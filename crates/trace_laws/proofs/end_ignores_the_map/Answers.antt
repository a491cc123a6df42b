use Rattle.trace_laws.proofs.Ends.{end_ignores_the_map}
use Rattle.trace_laws.proofs.end_ignores_the_map.Goals as goal

pub returns : goal.returns
returns c s = end_ignores_the_map _
