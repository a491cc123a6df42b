-- What a line says: the forms of which nothing but that they stand is told.
use Rattle.std.proofs.Common.{◌≡◌, ℕ, ◌&&◌, zero, suc, true, List, [], ◌∷◌, length, refl, ap, subst}
use Rattle.std.specs.Prelude.{IsTrue, None, codes, decimal}
use Rattle.std.specs.List.{list_all}
use Rattle.std.proofs.lemmas.Bool.{and_from, and_parts}
use Rattle.values.specs.declared.batch.Refusal.{Refusal}
use Rattle.values.specs.declared.batch.Refusal.TheVariants as refusal
use Rattle.values.specs.declared.entry.Body.TheVariants.{Noop}
use Rattle.values.specs.declared.entry.Hash.{Hash}
use Rattle.values.specs.declared.entry.LogEntry.{LogEntry}
use Rattle.values.specs.declared.entry.Point.{Point}
use Rattle.values.specs.declared.ids.ClientId.{ClientId}
use Rattle.values.specs.declared.message.Answer.{Answer}
use Rattle.values.specs.declared.message.Answer.TheVariants as answer
use Rattle.values.specs.declared.peer.PeerMsg.{PeerMsg}
use Rattle.values.specs.declared.peer.PeerMsg.TheVariants as peer
use Rattle.values.specs.declared.peer.TablePart.{TablePart}
use Rattle.values.specs.declared.row.Row.{Row}
use Rattle.values.specs.declared.want.Report.{Report}
use Rattle.values.specs.declared.want.Report.TheVariants as report
use Rattle.schedule_model.specs.Lines.{Line, answer_fields, group_refusal_fields, message_fields, refusal_fields, refused_line, report_fields, cause_word, quantity_word}
use Rattle.schedule_model.specs.Quantities.{Quantity}
use Rattle.schedule_model.specs.Reading.{RecordFault}
use Rattle.schedule_model.specs.Refusals.{GroupRefusal, NoMessage, Lost, NotRunning, AlreadyStarted, NoSuchState, ClientBusy, WrongSize, NumbersOut, NothingInFlight, NoAnswer, NotYours}
use Rattle.trace_model.specs.TraceLines.{Form, RefusedForm, RefusedByGroup, StoppedAtRecord, StoppedAtLimit, StoppedAtFrame, InRange, Refused, Stopped, Other, answer_said, form_fields, group_refusal_numbers, is_answer, is_index, is_message, is_report, is_u32, is_u64, refusal_numbers, said_by}
use Rattle.trace_model.proofs.Numbers.{one_number}
use Rattle.trace_lines.specs.declared.kind.Kind.TheVariants as kind
use Rattle.trace_lines.specs.Kinds.{answer_rows, fits_row, message_rows, refusal_rows, report_rows, stop_rows}
use Rattle.trace_lines.proofs.FieldKinds.{RowOf, row_found, row_only}
use Rattle.trace_lines.proofs.Steps.{Each}

-- ---- messages
abbrev pub MessageOf : Line → Type 0
MessageOf fields = (m : PeerMsg) × (fields ≡ message_fields m) × IsTrue (is_message m)

abbrev none : Hash
none = record { 0 = [] }

abbrev at : ℕ → Point
at index = record { index = index; hash = none }

-- as many entries, and rows
an_entry : LogEntry
an_entry = record { term = 0; body = Noop }

entries : (n : ℕ) → (l : List LogEntry) × (length l ≡ n)
entries zero = ([], refl)
entries (suc n) = let e = entries n in (an_entry ∷ e.0, ap suc e.1)

a_row : Row
a_row = record { client = record { 0 = [] }; last = 0; kept = None }

rows : (n : ℕ) → (l : List Row) × (length l ≡ n)
rows zero = ([], refl)
rows (suc n) = let e = rows n in (a_row ∷ e.0, ap suc e.1)

abbrev a_part : (index part parts : ℕ) → List Row → TablePart
a_part index part parts rows = record { point = at index; last_term = 0; conf_index = 0; margin = 0; voters = []; limit = 0; part = part; parts = parts; rows = rows }

vote_row : RowOf MessageOf (codes "vote") (kind.Index ∷ kind.Bit ∷ [])
vote_row v h = (peer.Vote v.0 v.1.0, refl, (and_parts (is_index v.0) true h).0)

append_row : RowOf MessageOf (codes "append") (kind.Index ∷ kind.Index ∷ kind.Wide ∷ kind.Index ∷ kind.Index ∷ [])
append_row v h =
    let e = entries v.1.1.0 in
    subst (λ n. IsTrue (is_index v.0 && (is_index v.1.0 && (is_u64 n && (is_index v.1.1.1.0 && is_index v.1.1.1.1.0))))
    → MessageOf (codes "append" ∷ decimal v.0 ∷ decimal v.1.0 ∷ decimal n ∷ decimal v.1.1.1.0 ∷ decimal v.1.1.1.1.0 ∷ []))
    e.1 (λ h. (peer.Append v.0 (at v.1.0) e.0 v.1.1.1.0 v.1.1.1.1.0, refl, h)) h

part_row : RowOf MessageOf (codes "part") (kind.Index ∷ kind.Index ∷ kind.Wide ∷ kind.Wide ∷ kind.Small ∷ [])
part_row v h =
    let e = rows v.1.1.1.1.0 in
    subst (λ n. IsTrue (is_index v.0 && (is_index v.1.0 && (is_u64 v.1.1.0 && (is_u64 v.1.1.1.0 && is_u32 n))))
    → MessageOf (codes "part" ∷ decimal v.0 ∷ decimal v.1.0 ∷ decimal v.1.1.0 ∷ decimal v.1.1.1.0 ∷ decimal n ∷ []))
    e.1 (λ h. (peer.Part v.0 (a_part v.1.0 v.1.1.0 v.1.1.1.0 e.0), refl, h)) h

message_each : Each (RowOf MessageOf) message_rows
message_each = (
  (λ v h. (peer.AskVote v.0 v.1.0 v.1.1.0, refl, h)),
  (
    vote_row,
    (
      append_row,
      (
        (λ v h. (peer.Accepted v.0 (at v.1.0) v.1.1.0, refl, h)),
        (
          (λ v h. (peer.Rejected v.0 v.1.0 v.1.1.0, refl, h)),
          (
            part_row,
            (
              (λ v h. (peer.PartTaken v.0 (at v.1.0) v.1.1.0, refl, h)),
              tt,
            ),
          ),
        ),
      ),
    ),
  ),
)

pub message_found : (fields : Line) → IsTrue (fits_row message_rows fields) → MessageOf fields
message_found fields h = row_found MessageOf message_rows message_each fields h

pub message_only : (m : PeerMsg) → IsTrue (is_message m) → IsTrue (fits_row message_rows (message_fields m))
message_only (peer.AskVote term index last) h = row_only message_rows (codes "askvote") (kind.Index ∷ kind.Index ∷ kind.Index ∷ []) (term, (index, (last, tt))) refl h
message_only (peer.Vote term granted) h = row_only message_rows (codes "vote") (kind.Index ∷ kind.Bit ∷ []) (term, (granted, tt)) refl (and_from (is_index term) true h refl)
message_only (peer.Append term prev entries promise commit) h = row_only message_rows (codes "append") (kind.Index ∷ kind.Index ∷ kind.Wide ∷ kind.Index ∷ kind.Index ∷ []) (term, (prev.index, (length entries, (promise, (commit, tt))))) refl h
message_only (peer.Accepted term end promised) h = row_only message_rows (codes "accepted") (kind.Index ∷ kind.Index ∷ kind.Index ∷ []) (term, (end.index, (promised, tt))) refl h
message_only (peer.Rejected term asked hint) h = row_only message_rows (codes "rejected") (kind.Index ∷ kind.Index ∷ kind.Index ∷ []) (term, (asked, (hint, tt))) refl h
message_only (peer.Part term p) h = row_only message_rows (codes "part") (kind.Index ∷ kind.Index ∷ kind.Wide ∷ kind.Wide ∷ kind.Small ∷ []) (term, (p.point.index, (p.part, (p.parts, (length p.rows, tt))))) refl h
message_only (peer.PartTaken term at next) h = row_only message_rows (codes "parttaken") (kind.Index ∷ kind.Index ∷ kind.Wide ∷ []) (term, (at.index, (next, tt))) refl h

-- ---- reports
abbrev pub ReportOf : Line → Type 0
ReportOf fields = (r : Report) × (fields ≡ report_fields r) × IsTrue (is_report r)

report_each : Each (RowOf ReportOf) report_rows
report_each = (
  (λ v h. (report.Stored, refl, refl)),
  (
    (λ v h. (report.Recovered v.0 v.1.0, refl, h)),
    (
      (λ v h. (report.WrongPin v.0, refl, h)),
      (
        (λ v h. (report.Missing, refl, refl)),
        (
          (λ v h. (report.Deleted, refl, refl)),
          (
            (λ v h. (report.ExposeError, refl, refl)),
            (
              (λ v h. (report.Full v.0, refl, h)),
              (
                (λ v h. (report.Undecided v.0, refl, h)),
                tt,
              ),
            ),
          ),
        ),
      ),
    ),
  ),
)

pub report_found : (fields : Line) → IsTrue (fits_row report_rows fields) → ReportOf fields
report_found fields h = row_found ReportOf report_rows report_each fields h

pub report_only : (r : Report) → IsTrue (is_report r) → IsTrue (fits_row report_rows (report_fields r))
report_only report.Stored h = refl
report_only (report.Recovered secret left) h = row_only report_rows (codes "recovered") (kind.Hex ∷ kind.Small ∷ []) (secret, (left, tt)) refl h
report_only (report.WrongPin left) h = row_only report_rows (codes "wrongpin") (kind.Small ∷ []) (left, tt) refl h
report_only report.Missing h = refl
report_only report.Deleted h = refl
report_only report.ExposeError h = refl
report_only (report.Full rows) h = row_only report_rows (codes "full") (kind.Small ∷ []) (rows, tt) refl h
report_only (report.Undecided last) h = row_only report_rows (codes "undecided") (kind.Wide ∷ []) (last, tt) refl h

-- ---- answers that are no outcome
abbrev pub AnswerOf : Line → Type 0
AnswerOf fields = (a : Answer) × (fields ≡ answer_fields a) × IsTrue (is_answer a) × ((c : ClientId) (n : ℕ) → answer_said c n a ≡ Other)

answer_each : Each (RowOf AnswerOf) answer_rows
answer_each = (
  (λ v h. (answer.NotLeader v.0, refl, h, λ c n. refl)),
  (
    (λ v h. (answer.Busy v.0, refl, h, λ c n. refl)),
    (
      (λ v h. (answer.Undecided v.0 v.1.0 v.1.1.0, refl, h, λ c n. refl)),
      (
        (λ v h. (answer.Malformed v.0, refl, h, λ c n. refl)),
        (
          (λ v h. (answer.Invalid v.0 v.1.0, refl, h, λ c n. refl)),
          (
            (λ v h. (answer.Halted v.0, refl, h, λ c n. refl)),
            tt,
          ),
        ),
      ),
    ),
  ),
)

pub answer_found : (fields : Line) → IsTrue (fits_row answer_rows fields) → AnswerOf fields
answer_found fields h = row_found AnswerOf answer_rows answer_each fields h

abbrev pub answer_only_of : Answer → Type 0
answer_only_of (answer.Outcome index what) = Unit {0}
answer_only_of a = IsTrue (is_answer a) → IsTrue (fits_row answer_rows (answer_fields a))

pub answer_only : (a : Answer) → answer_only_of a
answer_only (answer.Outcome index what) = tt
answer_only (answer.NotLeader id) = λ h. row_only answer_rows (codes "notleader") (kind.Leader ∷ []) (id, tt) refl h
answer_only (answer.Busy waiting) = λ h. row_only answer_rows (codes "busy") (kind.Wide ∷ []) (waiting, tt) refl h
answer_only (answer.Undecided at kept offered) = λ h. row_only answer_rows (codes "undecided") (kind.Index ∷ kind.Hash ∷ kind.Hash ∷ []) (at, (kept, (offered, tt))) refl h
answer_only (answer.Malformed offset) = λ h. row_only answer_rows (codes "malformed") (kind.Wide ∷ []) (offset, tt) refl h
answer_only (answer.Invalid part n) = λ h. row_only answer_rows (codes "invalid") (kind.Part ∷ kind.Wide ∷ []) (part, (n, tt)) refl h
answer_only (answer.Halted index) = λ h. row_only answer_rows (codes "halted") (kind.Index ∷ []) (index, tt) refl h

-- ---- refusals
abbrev pub RefusalOf : Line → Type 0
RefusalOf fields = (f : Form) × (refused_line fields ≡ form_fields f) × InRange f × (said_by f ≡ Refused)

two_wide : (m n : ℕ) → IsTrue (is_u64 m && is_u64 n) → IsTrue (list_all is_u64 (m ∷ n ∷ []))
two_wide m n h = let p = and_parts (is_u64 m) (is_u64 n) h in and_from (is_u64 m) (list_all is_u64 (n ∷ [])) p.0 (one_number n p.1)

one_back : (n : ℕ) → IsTrue (list_all is_u64 (n ∷ [])) → IsTrue (is_u64 n)
one_back n h = (and_parts (is_u64 n) true h).0

two_back : (m n : ℕ) → IsTrue (list_all is_u64 (m ∷ n ∷ [])) → IsTrue (is_u64 m && is_u64 n)
two_back m n h = let p = and_parts (is_u64 m) (list_all is_u64 (n ∷ [])) h in and_from (is_u64 m) (is_u64 n) p.0 (one_back n p.1)

refusal_each : Each (RowOf RefusalOf) refusal_rows
refusal_each = (
  (λ v h. (RefusedForm (refusal.NotLeader v.0), refl, one_number v.0 h, refl)),
  (
    (λ v h. (RefusedForm (refusal.ChangePending v.0 v.1.0), refl, two_wide v.0 v.1.0 h, refl)),
    (
      (λ v h. (RefusedForm (refusal.AlreadyVoter v.0), refl, one_number v.0 h, refl)),
      (
        (λ v h. (RefusedForm (refusal.NotVoter v.0), refl, one_number v.0 h, refl)),
        (
          (λ v h. (RefusedForm (refusal.TooFew v.0), refl, one_number v.0 h, refl)),
          (
            (λ v h. (RefusedForm (refusal.TooMany v.0), refl, one_number v.0 h, refl)),
            (
              (λ v h. (RefusedForm (refusal.NotCaughtUp v.0 v.1.0), refl, two_wide v.0 v.1.0 h, refl)),
              (
                (λ v h. (RefusedForm (refusal.NoLink v.0), refl, one_number v.0 h, refl)),
                (
                  (λ v h. (RefusedForm (refusal.LogFull v.0), refl, one_number v.0 h, refl)),
                  (
                    (λ v h. (RefusedForm (refusal.NoState v.0), refl, one_number v.0 h, refl)),
                    (
                      (λ v h. (RefusedForm (refusal.NotForMe v.0), refl, one_number v.0 h, refl)),
                      (
                        (λ v h. (RefusedForm (refusal.BadPeer v.0), refl, one_number v.0 h, refl)),
                        (
                          (λ v h. (RefusedForm (refusal.SameMargin v.0), refl, one_number v.0 h, refl)),
                          (
                            (λ v h. (RefusedByGroup (NoMessage v.0), refl, one_number v.0 h, refl)),
                            (
                              (λ v h. (RefusedByGroup (Lost v.0), refl, one_number v.0 h, refl)),
                              (
                                (λ v h. (RefusedByGroup (NotRunning v.0), refl, one_number v.0 h, refl)),
                                (
                                  (λ v h. (RefusedByGroup (AlreadyStarted v.0), refl, one_number v.0 h, refl)),
                                  (
                                    (λ v h. (RefusedByGroup ClientBusy, refl, refl, refl)),
                                    (
                                      (λ v h. (RefusedByGroup (WrongSize v.0 v.1.0), refl, one_number v.1.0 h, refl)),
                                      (
                                        (λ v h. (RefusedByGroup (NumbersOut v.0), refl, one_number v.0 h, refl)),
                                        (
                                          (λ v h. (RefusedByGroup NothingInFlight, refl, refl, refl)),
                                          (
                                            (λ v h. (RefusedByGroup (NoAnswer v.0), refl, one_number v.0 h, refl)),
                                            (
                                              (λ v h. (RefusedByGroup (NotYours v.0), refl, one_number v.0 h, refl)),
                                              tt,
                                            ),
                                          ),
                                        ),
                                      ),
                                    ),
                                  ),
                                ),
                              ),
                            ),
                          ),
                        ),
                      ),
                    ),
                  ),
                ),
              ),
            ),
          ),
        ),
      ),
    ),
  ),
)

pub refusal_found : (fields : Line) → IsTrue (fits_row refusal_rows fields) → RefusalOf fields
refusal_found fields h = row_found RefusalOf refusal_rows refusal_each fields h

pub refusal_only : (r : Refusal) → IsTrue (list_all is_u64 (refusal_numbers r)) → IsTrue (fits_row refusal_rows (refusal_fields r))
refusal_only (refusal.NotLeader n) h = row_only refusal_rows (codes "notleader") (kind.Wide ∷ []) (n, tt) refl (one_back n h)
refusal_only (refusal.ChangePending m n) h = row_only refusal_rows (codes "changepending") (kind.Wide ∷ kind.Wide ∷ []) (m, (n, tt)) refl (two_back m n h)
refusal_only (refusal.AlreadyVoter n) h = row_only refusal_rows (codes "alreadyvoter") (kind.Wide ∷ []) (n, tt) refl (one_back n h)
refusal_only (refusal.NotVoter n) h = row_only refusal_rows (codes "notvoter") (kind.Wide ∷ []) (n, tt) refl (one_back n h)
refusal_only (refusal.TooFew n) h = row_only refusal_rows (codes "toofew") (kind.Wide ∷ []) (n, tt) refl (one_back n h)
refusal_only (refusal.TooMany n) h = row_only refusal_rows (codes "toomany") (kind.Wide ∷ []) (n, tt) refl (one_back n h)
refusal_only (refusal.NotCaughtUp m n) h = row_only refusal_rows (codes "notcaughtup") (kind.Wide ∷ kind.Wide ∷ []) (m, (n, tt)) refl (two_back m n h)
refusal_only (refusal.NoLink n) h = row_only refusal_rows (codes "nolink") (kind.Wide ∷ []) (n, tt) refl (one_back n h)
refusal_only (refusal.LogFull n) h = row_only refusal_rows (codes "logfull") (kind.Wide ∷ []) (n, tt) refl (one_back n h)
refusal_only (refusal.NoState n) h = row_only refusal_rows (codes "nostate") (kind.Wide ∷ []) (n, tt) refl (one_back n h)
refusal_only (refusal.NotForMe n) h = row_only refusal_rows (codes "notforme") (kind.Wide ∷ []) (n, tt) refl (one_back n h)
refusal_only (refusal.BadPeer n) h = row_only refusal_rows (codes "badpeer") (kind.Wide ∷ []) (n, tt) refl (one_back n h)
refusal_only (refusal.SameMargin n) h = row_only refusal_rows (codes "samemargin") (kind.Wide ∷ []) (n, tt) refl (one_back n h)

pub group_only : (r : GroupRefusal) → IsTrue (list_all is_u64 (group_refusal_numbers r)) → IsTrue (fits_row refusal_rows (group_refusal_fields r))
group_only (NoMessage n) h = row_only refusal_rows (codes "nomessage") (kind.Wide ∷ []) (n, tt) refl (one_back n h)
group_only (Lost n) h = row_only refusal_rows (codes "lost") (kind.Wide ∷ []) (n, tt) refl (one_back n h)
group_only (NotRunning n) h = row_only refusal_rows (codes "notrunning") (kind.Wide ∷ []) (n, tt) refl (one_back n h)
group_only (AlreadyStarted n) h = row_only refusal_rows (codes "alreadystarted") (kind.Wide ∷ []) (n, tt) refl (one_back n h)
group_only (NoSuchState n) h = row_only refusal_rows (codes "nostate") (kind.Wide ∷ []) (n, tt) refl (one_back n h)
group_only ClientBusy h = refl
group_only (WrongSize p n) h = row_only refusal_rows (codes "size") (kind.Part ∷ kind.Wide ∷ []) (p, (n, tt)) refl (one_back n h)
group_only (NumbersOut n) h = row_only refusal_rows (codes "numbersout") (kind.Wide ∷ []) (n, tt) refl (one_back n h)
group_only NothingInFlight h = refl
group_only (NoAnswer n) h = row_only refusal_rows (codes "noanswer") (kind.Wide ∷ []) (n, tt) refl (one_back n h)
group_only (NotYours n) h = row_only refusal_rows (codes "notyours") (kind.Wide ∷ []) (n, tt) refl (one_back n h)

-- ---- why a trace ends early
abbrev pub StopOf : Line → Type 0
StopOf fields = (f : Form) × (codes "stopped" ∷ fields ≡ form_fields f) × InRange f × (said_by f ≡ Stopped)

stop_each : Each (RowOf StopOf) stop_rows
stop_each = (
  (λ v h. (StoppedAtRecord v.0 (record { cause = v.1.0; field = v.1.1.0 }), refl, h, refl)),
  (
    (λ v h. (StoppedAtLimit v.0, refl, tt, refl)),
    ((λ v h. (StoppedAtFrame, refl, tt, refl)), tt),
  ),
)

pub stop_found : (fields : Line) → IsTrue (fits_row stop_rows fields) → StopOf fields
stop_found fields h = row_found StopOf stop_rows stop_each fields h

pub record_stop_only : (n : ℕ) (f : RecordFault) → IsTrue (is_u64 n && is_u64 f.field) → IsTrue (fits_row stop_rows (codes "schedule" ∷ decimal n ∷ cause_word f.cause ∷ decimal f.field ∷ []))
record_stop_only n f h = row_only stop_rows (codes "schedule") (kind.Wide ∷ kind.Cause ∷ kind.Wide ∷ []) (n, (f.cause, (f.field, tt))) refl h

pub limit_stop_only : (q : Quantity) → IsTrue (fits_row stop_rows (codes "limit" ∷ quantity_word q ∷ []))
limit_stop_only q = row_only stop_rows (codes "limit") (kind.Quantity ∷ []) (q, tt) refl refl
