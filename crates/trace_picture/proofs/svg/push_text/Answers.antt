use Rattle.trace_picture.proofs.Escaping.{inert_text}
use Rattle.trace_picture.proofs.svg.push_text.Goals as goal

pub returns-in_err-push_byte-clause-inert : goal.returns-in_err-push_byte-clause-inert
returns-in_err-push_byte-clause-inert c = inert_text c.args.text.now

pub returns-clause-inert : goal.returns-clause-inert
returns-clause-inert c = inert_text c.args.text.now
