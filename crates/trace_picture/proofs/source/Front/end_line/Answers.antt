use Rattle.std.proofs.Common.{◌+◌, Err, ap, ◌∙◌}
use Rattle.std.proofs.lemmas.Result.{err_from_is_err_and}
use Rattle.trace_picture.proofs.Taking.{line_answered, line_told}
use Rattle.trace_picture.proofs.source.Front.end_line.Goals as goal

pub returns-in_err-tell-clause-takes : goal.returns-in_err-tell-clause-takes
returns-in_err-tell-clause-takes c = λ bytes lacks s.
    let p = err_from_is_err_and c.from_residual.result c.from_residual.ensures.1 in
    line_answered c.args.self.now c.tell.new.self bytes c.args.end.now c.tell.result c.from_residual.result c.in_err-tell.field-0.0 lacks s c.tell.ensures.lines
    c.in_err-tell.was (p.1 ∙ ap Err p.2) c.tell.ensures.told

pub returns-clause-takes : goal.returns-clause-takes
returns-clause-takes c = λ bytes lacks s.
    line_told c.args.self.now _ bytes c.args.end.now c.tell.result c.in_ok-tell.field-0 lacks s (ap (λ n. n + 1) c.tell.ensures.lines) c.in_ok-tell.ensures.pending
    c.in_ok-tell.was c.tell.ensures.told
