-- One record, and a record that ends the text.
use Rattle.std.proofs.Common.{refl, sym, ap, ◌∙◌, ◌≡◌, ◌+◌, ℕ, List, [], ◌∷◌, ◌++◌, true, false, Result, Ok, Err, OnErr, OnOk, append-nil, append_assoc}
use Rattle.std.specs.Prelude.{nat_le}
use Rattle.record_stream.specs.Alone.{closes_alone, none_asked, one_way}
use Rattle.record_stream.specs.Course.{Adds, Closes, Goes, Stops}
use Rattle.values.specs.declared.message.Request.{Request}
use Rattle.client_msgs.specs.Reading.{request_of}
use Rattle.client_msgs.specs.declared.fault.RequestFault.{RequestFault}
use Rattle.schedule_model.specs.Quantities.{Events}
use Rattle.record_cutting.specs.Lines.{Record}
use Rattle.schedule_model.specs.Lines.{line_text, stopped_at_limit, stopped_at_record}
use Rattle.schedule_model.specs.Reading.{RecordFault}
use Rattle.schedule_model.specs.Written.{AtLimit, AtRecord, Off, On, Stop, Written, all_written, last_of, onto, stopped_text, text_with}
use Rattle.schedule_text.specs.declared.fault.Stopped.TheVariants as stopped
use Rattle.values.specs.declared.limits.TheConstants.{MAX_EVENTS}
use Rattle.table_model.specs.TableText.{Applied, TableRecord, asks, row_line, rows_line, table_played, table_record}
use Rattle.table_command.specs.Course.{after_ask, after_record, cause_in, cause_of, closing, course_from, outcome, outcome_of}

asks_of : (s : Applied) (r : TableRecord) (read : Result Request RequestFault)
    → asks s r.client r.number read ≡ On (row_line s (outcome_of s.table r read).1) (record { records = s.records + 1; table = (outcome_of s.table r read).0 })
asks_of s r (Ok request) = refl
asks_of s r (Err fault) = refl

-- ---- a text before what is written

text_onto : (close : Applied → List ℕ) (text : List ℕ) (w : Written Applied) → text_with close (onto text w) ≡ text ++ text_with close w
text_onto close text (On more s) = append_assoc text more (close s)
text_onto close text (Off more stop s) = append_assoc text more (stopped_text stop)

cause_onto : (text : List ℕ) (w : Written Applied) → cause_in (onto text w) ≡ cause_in w
cause_onto text (On more s) = refl
cause_onto text (Off more stop s) = refl

goes_on : (s t : Applied) (r : Record) (text : List ℕ) → table_played s r ≡ On text t → Goes (course_from s) (r ∷ []) (course_from t) text
unfolding all_written
goes_on s t r text is = record {
  holds = λ more here. tt;
  text = λ closed more here. rw is (text_onto (closing closed) text (all_written table_played t more));
  reason = λ more here. rw is (cause_onto text (all_written table_played t more));
  failed = λ more here. refl;
  takes_all = λ more here. refl;
}

stops_at : (s t : Applied) (r : Record) (stop : Stop) → table_played s r ≡ Off [] stop t → Stops (course_from s) (r ∷ []) (cause_of stop) (stopped_text stop)
unfolding all_written
stops_at s t r stop is = record { text = λ closed more here. rw is refl; reason = λ more here. rw is refl; takes_all = λ more here. refl }

-- ---- the three kinds of records

-- a record that asks, while there is room for another
played_ask : (s : Applied) (r : Record) (ask : TableRecord) → table_record r ≡ Ok ask → nat_le MAX_EVENTS s.records ≡ false
    → table_played s r ≡ On (row_line s (outcome s.table ask).1) (after_ask s ask)
played_ask s r ask is room = rw (is, room) (asks_of s ask (request_of ask.request))

pub goes_ask : (s t : Applied) (r : Record) (ask : TableRecord) → table_record r ≡ Ok ask → nat_le MAX_EVENTS s.records ≡ false → t ≡ after_ask s ask
    → Goes (course_from s) (r ∷ []) (course_from t) (row_line s (outcome s.table ask).1)
goes_ask s t r ask is room to = rw to (goes_on s (after_ask s ask) r (row_line s (outcome s.table ask).1) (played_ask s r ask is room))

pub after_asking : (s t : Applied) (r : Record) (ask : TableRecord) → table_record r ≡ Ok ask → nat_le MAX_EVENTS s.records ≡ false → t ≡ after_ask s ask → t ≡ after_record s r
after_asking s t r ask is room to = to ∙ ap (λ (w : Written Applied). last_of w) (sym (played_ask s r ask is room))

-- one that means nothing
pub stops_record : (s : Applied) (r : Record) (fault : RecordFault) → table_record r ≡ Err fault
    → Stops (course_from s) (r ∷ []) stopped.AtRecord (line_text (stopped_at_record (s.records + 1) fault))
stops_record s r fault is = stops_at s s r (AtRecord (s.records + 1) fault) (rw is refl)

-- one past the limit
pub stops_limit : (s : Applied) (r : Record) (ask : TableRecord) → table_record r ≡ Ok ask → nat_le MAX_EVENTS s.records ≡ true
    → Stops (course_from s) (r ∷ []) stopped.AtLimit (line_text (stopped_at_limit Events))
stops_limit s r ask is full = stops_at s s r (AtLimit Events) (rw (is, full) refl)

-- ---- the closing line

pub closes_rows : {T E : Type 0} (s : Applied) (old new : List ℕ) (r : Result T E) → OnOk r (new ≡ old ++ rows_line s) → OnErr r (new ≡ old)
    → (text : List ℕ) × Closes none_asked one_way course_from after_record s text × Adds text old new r
unfolding all_written
closes_rows s old new (Ok done) line kept = (rows_line s, closes_alone course_from after_record s, line)
closes_rows s old new (Err e) line kept = (rows_line s, closes_alone course_from after_record s, ([], rows_line s, refl, kept ∙ sym (append-nil old)))
