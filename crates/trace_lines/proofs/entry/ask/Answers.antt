use Rattle.std.proofs.Common.{arith}
use Rattle.std.proofs.lemmas.Bool.{ltb-false, ltb-true}
use Rattle.trace_lines.proofs.Counts.{few_ask, many_ask}
use Rattle.trace_lines.proofs.entry.ask.Goals as goal
use Rattle.trace_lines.proofs.entry.ask.Goals.{in_default-via-then-fields-lt3, in_default-via-else-fields-lt3+else-fields-lt4}

pub returns-in_default : goal.returns-in_default
returns-in_default c = elim c.in_default.branch [
  | in_default-via-then-fields-lt3 w ↦ few_ask c.args.fields.now (omega (arith, ltb-true))
  | in_default-via-else-fields-lt3+else-fields-lt4 w ↦ many_ask c.args.fields.now (omega (arith, ltb-false))
]
