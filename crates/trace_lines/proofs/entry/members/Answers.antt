use Rattle.trace_lines.proofs.Counts.{few_members}
use Rattle.trace_lines.proofs.entry.members.Goals as goal

pub returns-in_default : goal.returns-in_default
returns-in_default c = few_members c.args.fields.now c.in_default.len_below
