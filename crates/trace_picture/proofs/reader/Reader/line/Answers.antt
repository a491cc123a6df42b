use Rattle.std.proofs.Common.{inl, refl}
use Rattle.trace_lines.specs.Meant.{meant}
use Rattle.trace_picture.proofs.Forms.{answered_error, answered_taken, not_so}
use Rattle.trace_picture.proofs.reader.Reader.line.Goals as goal

pub returns-in-Ok : goal.returns-in-Ok
returns-in-Ok c = answered_taken _ c.answered-in-Ok.result c.answered-in-Ok.ensures (inl (meant c.in-Ok.said, (c.args.line.now, refl, c.in-Ok.ensures.found)))

pub returns-in-Err : goal.returns-in-Err
returns-in-Err c = answered_error c.args.line.now c.in-Err.error (not_so c.is_gaveup.result c.if-is_gaveup.false c.is_gaveup.ensures) c.in-Err.ensures.only
