use Rattle.std.proofs.Common.{false, refl}
use Rattle.values.specs.declared.event.Event.TheVariants as event
use Rattle.values.specs.declared.message.Answer.TheVariants as answer
use Rattle.values.specs.declared.message.Reply.TheVariants.{Applied}
use Rattle.values.specs.declared.message.Response.TheVariants.{Backup}
use Rattle.trace_model.specs.TraceLines.{EventForm, CommitForm, AnswerForm, RollbacksForm}
use Rattle.model_rows.specs.Audits.{client, noop_of}
use Rattle.model_rows.proofs.Computing.{computing}
use Rattle.model_rows.proofs.audits.lines.Goals as goal

pub returns : goal.returns
unfolding computing
returns c =
    record {
      commit = (CommitForm 7 3 (noop_of 2), record { short = refl; printed = refl; in_range = (refl, tt) }, refl);
      outcome = (AnswerForm 1 7 client 1 (answer.Outcome 2 (Applied (Backup 1))), record { short = refl; printed = refl; in_range = refl }, refl);
      roll = (EventForm 9 (event.Roll 2 1), record { short = refl; printed = refl; in_range = (refl, (tt, refl)) }, refl);
      closing = (RollbacksForm false, record { short = refl; printed = refl; in_range = tt }, refl);
    }
