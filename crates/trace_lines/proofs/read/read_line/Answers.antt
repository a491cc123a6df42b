use Rattle.trace_lines.proofs.Whole.{found, only}
use Rattle.trace_lines.proofs.read.read_line.Goals as goal

pub returns-clause-found : goal.returns-clause-found
returns-clause-found c = found c.args.line.now c.read.result c.read.ensures

pub returns-clause-only : goal.returns-clause-only
returns-clause-only c = only c.fields_are_plain.ensures c.requests_are_read_again.ensures c.responses_are_read_again.ensures c.args.line.now c.read.result c.read.ensures
