use Rattle.trace_model.proofs.Fields.{form_plain}
use Rattle.trace_model.proofs.fields_are_plain.Goals as goal

pub returns : goal.returns
returns c form = form_plain form
