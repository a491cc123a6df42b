use Rattle.trace_lines.proofs.Counts.{few_commit}
use Rattle.trace_lines.proofs.entry.commit.Goals as goal

pub returns-in_default : goal.returns-in_default
returns-in_default c = few_commit c.args.fields.now c.in_default.len_below
