use Rattle.std.proofs.Common.{codes, [], ◌∷◌}
use Rattle.schedule_model.specs.Lines.{hex, want_fields}
use Rattle.trace_text.proofs.Joining.{puts_both}
use Rattle.trace_text.proofs.writer.TraceWriter.record.Goals as goal

pub returns-in-Ask : goal.returns-in-Ask
returns-in-Ask c = rw c.in-Ask.is (rw (c.small.ensures, c.as_slice-in-Ask.ensures) at c.fields.ensures)

pub returns-in_ok-fields-in-Want : goal.returns-in_ok-fields-in-Want
returns-in_ok-fields-in-Want c =
    rw c.in-Want.is (puts_both _ _ _ _ (codes "want" ∷ hex c.in-Want.client.0 ∷ []) (want_fields c.in-Want.want) c.in_ok-fields-in-Want.ensures c.want.ensures)

pub returns-in-Say : goal.returns-in-Say
returns-in-Say c = rw c.in-Say.is (rw c.small-in-Say.ensures at c.fields-in-Say.ensures)

pub returns-in-Hear : goal.returns-in-Hear
returns-in-Hear c = rw c.in-Hear.is c.fields-in-Hear.ensures

pub returns-in-Again : goal.returns-in-Again
returns-in-Again c = rw c.in-Again.is c.fields-in-Again.ensures
