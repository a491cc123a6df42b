use Rattle.trace_lines.proofs.Counts.{few_sent}
use Rattle.trace_lines.proofs.rows.is_sent.Goals as goal

pub returns-in_default : goal.returns-in_default
returns-in_default c = few_sent c.args.fields.now c.in_default.len_below
