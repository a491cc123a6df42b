use Rattle.std.proofs.Common.{sym, ap, ◌∙◌}
use Rattle.trace_lines.specs.Meant.{meant}
use Rattle.trace_audit.specs.Stands.{fault_told, why_of}
use Rattle.trace_audit.proofs.Standing.{step_refused}
use Rattle.trace_audit.proofs.audit.Audit.line.Goals as goal

pub returns-in-Err-clause-step : goal.returns-in-Err-clause-step
returns-in-Err-clause-step c = λ state s.
    step_refused state (meant c.args.line) (why_of c.in-Err.why)
    (sym (c.check.ensures state s) ∙ ap fault_told c.in-Err.is)
