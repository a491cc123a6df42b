use Rattle.std.proofs.Common.{arith, rules, sym, ap, append-nil, subst, ◌∙◌, ◌+◌, ◌++◌, ◌≡◌, [], Ok, Err, true, false}
use Rattle.std.specs.Prelude.{nat_le}
use Rattle.std.proofs.lemmas.Result.{err_from_is_err_and}
use Rattle.record_stream.specs.Alone.{advances_alone, cuts_alone, halts_alone, kept_alone}
use Rattle.record_cutting.specs.Lines.{record_of}
use Rattle.values.specs.declared.limits.TheConstants.{MAX_EVENTS}
use Rattle.schedule_model.specs.Lines.{line_text, stopped_at_record}
use Rattle.table_model.specs.TableText.{row_line, table_record}
use Rattle.table_command.specs.Course.{after_ask, after_record, course_from, outcome}
use Rattle.table_command.proofs.Playing.{after_asking, goes_ask, stops_limit, stops_record}
use Rattle.table_command.proofs.player.TablePlayerPlayer.play.Goals as goal

pub returns-in-Err-Memory-clause-plays : goal.returns-in-Err-Memory-clause-plays
returns-in-Err-Memory-clause-plays c = ([], cuts_alone course_from after_record _ _ _, sym (append-nil _))

pub returns-in_err-stop_at_record-in-Err-Fault-clause-plays : goal.returns-in_err-stop_at_record-in-Err-Fault-clause-plays
returns-in_err-stop_at_record-in-Err-Fault-clause-plays c =
    let p = err_from_is_err_and c.from_residual.result c.from_residual.ensures.1 in
    kept_alone course_from after_record _ _ _ _ _ _ (p.1 ∙ ap Err p.2) c.in_err-stop_at_record-in-Err-Fault.ensures.kept

pub returns-in-Err-Fault-clause-plays : goal.returns-in-Err-Fault-clause-plays
returns-in-Err-Fault-clause-plays c =
    let s = c.args.self.now in
    let fields = record_of c.args.fields.now in
    let bad : table_record fields ≡ Err c.in-Err-Fault.fault = search rules in
    (_, halts_alone course_from after_record s _ _ _ _ (stops_record s fields c.in-Err-Fault.fault bad), subst (λ q. c.stop_at_record.new.lines.items ≡ c.args.lines.now.items ++ line_text (stopped_at_record (q.records + 1) c.in-Err-Fault.fault)) c.read.ensures.same c.in_ok-stop_at_record-in-Err-Fault.ensures.line)

pub returns-in_err-stop_at_limit-clause-plays : goal.returns-in_err-stop_at_limit-clause-plays
returns-in_err-stop_at_limit-clause-plays c =
    let p = err_from_is_err_and c.from_residual-in_err-stop_at_limit.result c.from_residual-in_err-stop_at_limit.ensures.1 in
    kept_alone course_from after_record _ _ _ _ _ _ (p.1 ∙ ap Err p.2) c.in_err-stop_at_limit.ensures.kept

pub returns-then-self-ge-MAX_EVENTS-clause-plays : goal.returns-then-self-ge-MAX_EVENTS-clause-plays
returns-then-self-ge-MAX_EVENTS-clause-plays c =
    let s = c.args.self.now in
    let fields = record_of c.args.fields.now in
    let read : table_record fields ≡ Ok c.in-Ok.ask = search rules in
    let full : nat_le MAX_EVENTS s.records ≡ true = grind arith in
    (_, halts_alone course_from after_record s _ _ _ _ (stops_limit s fields c.in-Ok.ask read full), c.in_ok-stop_at_limit.ensures.line)

pub returns-in_err-ask-clause-plays : goal.returns-in_err-ask-clause-plays
returns-in_err-ask-clause-plays c =
    let p = err_from_is_err_and c.from_residual-in_err-ask.result c.from_residual-in_err-ask.ensures.1 in
    kept_alone course_from after_record _ _ _ _ _ _ (p.1 ∙ ap Err p.2) c.in_err-ask.ensures.kept

pub returns-clause-plays : goal.returns-clause-plays
returns-clause-plays c =
    let s = c.args.self.now in
    let fields = record_of c.args.fields.now in
    let read : table_record fields ≡ Ok c.in-Ok.ask = search rules in
    let room : nat_le MAX_EVENTS s.records ≡ false = grind arith in
    let after : c.leave.new.self ≡ after_ask s c.in-Ok.ask = c.leave.ensures ∙ subst (λ q. c.ask-2.new.self ≡ after_ask q c.in-Ok.ask) c.read.ensures.same c.in_ok-ask.ensures.after in
    let line : c.ask-2.new.lines.items ≡ c.args.lines.now.items ++ row_line s (outcome s.table c.in-Ok.ask).1 =
    subst (λ q. c.ask-2.new.lines.items ≡ c.args.lines.now.items ++ row_line q (outcome q.table c.in-Ok.ask).1) c.read.ensures.same c.in_ok-ask.ensures.line in
    (_, advances_alone course_from after_record s _ _ _ (goes_ask s _ fields c.in-Ok.ask read room after) (after_asking s _ fields c.in-Ok.ask read room after), line)
