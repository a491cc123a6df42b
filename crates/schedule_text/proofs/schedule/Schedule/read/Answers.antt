use Rattle.std.proofs.Common.{rules, ap, ◌∙◌, ◌≡◌, false, Err}
use Rattle.std.proofs.lemmas.Result.{err_from_is_err_and}
use Rattle.record_cutting.specs.Lines.{record_of}
use Rattle.schedule_model.specs.Records.{event_at, is_remark}
use Rattle.schedule_text.proofs.Events.{unread_event}
use Rattle.schedule_text.proofs.schedule.Schedule.read.Goals as goal

pub returns-in_err-event : goal.returns-in_err-event
returns-in_err-event c =
    let p = err_from_is_err_and c.from_residual.result c.from_residual.ensures.1 in
    let fields = record_of c.args.fields.now in
    let other : is_remark fields ≡ false = search rules in
    rw (p.1 ∙ ap Err p.2, other) (unread_event _ (event_at c.args.self.now.driven c.args.self.now.begun fields) c.in_err-event.ensures)
