-- A begin that a line tells has a limit in range.
use Rattle.std.proofs.Common.{◌≡◌, ℕ, ◌≤◌, Bool, true, false, List, length, Option, Some, None, Result, Ok, Err, subst}
use Rattle.std.specs.Prelude.{nat_le, if◌then◌else◌, decimal, map}
use Rattle.group_quorum.specs.Voters.{fault_of}
use Rattle.group_quorum.specs.declared.ConfigFault.{ConfigFault}
use Rattle.values.specs.declared.event.Event.{Event}
use Rattle.values.specs.declared.event.Event.TheVariants as event
use Rattle.values.specs.declared.event.Cause.TheVariants.{Fields}
use Rattle.values.specs.declared.limits.TheConstants.{MOST_ROWS}
use Rattle.schedule_model.specs.Reading.{RecordFault, ◌>>=◌, fault, number_of, replicas_from}
use Rattle.record_cutting.specs.Lines.{Record}
use Rattle.schedule_model.specs.Lines.{record_fields}
use Rattle.schedule_model.specs.Records.{begin_of, begin_or, fields_as, placed, some_event}
use Rattle.schedule_model.specs.Records as word
use Rattle.schedule_model.proofs.Reading.{number_of-range}
use Rattle.trace_model.specs.TraceLines as lines
use Rattle.trace_model.specs.TraceLines.{Form, EventForm, RefusedForm, RefusedByGroup, LeadForm, MembersForm, HaltForm, TakenForm, CommitForm, AnswerForm, SentForm, SavedForm, ClientForm, LogForm, RollbacksForm, EndForm, StoppedAtRecord, StoppedAtLimit, StoppedAtFrame, InRange, IsRecord, Says, TraceLine, said_by}
use Rattle.values.specs.declared.message.Answer.TheVariants as answer
use Rattle.trace_audit.specs.Stands.{IsPlayable}

-- ---- the parts of a begin record
limit_told : (f : Option ConfigFault) (m l : ℕ) (vs : List ℕ) (margin limit : ℕ) (voters : List ℕ)
    → some_event (begin_or f m l vs) ≡ Ok (Some (event.Begin margin limit voters)) → l ≡ limit
limit_told (Some f) m l vs margin limit voters e = absurd cc
limit_told None m l vs margin limit voters e = cc

limit_read : (m l : Result ℕ RecordFault) (vs : Result (List ℕ) RecordFault) (margin limit : ℕ) (voters : List ℕ)
    → some_event (m >>= (λ m. l >>= (λ l. vs >>= (λ vs. begin_or (fault_of m vs) m l vs)))) ≡ Ok (Some (event.Begin margin limit voters)) → l ≡ Ok limit
limit_read (Err f) l vs margin limit voters e = absurd cc
limit_read (Ok m) (Err f) vs margin limit voters e = absurd cc
limit_read (Ok m) (Ok l) (Err f) margin limit voters e = absurd cc
limit_read (Ok m) (Ok l) (Ok vs) margin limit voters e = let same = limit_told (fault_of m vs) m l vs margin limit voters e in cc

-- with as many fields as a begin has
counted : (few : Bool) (fields : Record) (e : Event)
    → some_event ((if few then Ok word.Begin else fault Fields 0) >>= (λ word. placed false word >>= (λ allowed. fields_as allowed fields))) ≡ Ok (Some e)
    → some_event (begin_of fields) ≡ Ok (Some e)
counted true fields e is = is
counted false fields e is = absurd cc

begin_record : (margin limit : ℕ) (voters : List ℕ) → IsRecord (event.Begin margin limit voters) → (1 ≤ limit) × (limit ≤ MOST_ROWS)
begin_record margin limit voters r =
    let fields : Record = record_fields (event.Begin margin limit voters) in
    number_of-range (decimal limit) 3 1 MOST_ROWS limit
    (limit_read (number_of (decimal margin) 2 0 15) (number_of (decimal limit) 3 1 MOST_ROWS) (replicas_from 4 (map decimal voters)) margin limit voters
    (counted (nat_le 4 (length fields)) fields (event.Begin margin limit voters) r.1))

-- ---- what a line says
event_playable : (number : ℕ) (what : Event) → IsRecord what → IsPlayable (lines.EventLine number what)
event_playable number (event.Begin margin limit voters) r = begin_record margin limit voters r
event_playable number (event.Start r) rec = tt
event_playable number (event.Tick r) rec = tt
event_playable number (event.Deliver m) rec = tt
event_playable number (event.Lose m) rec = tt
event_playable number (event.Settle m) rec = tt
event_playable number (event.Crash r) rec = tt
event_playable number (event.Save r) rec = tt
event_playable number (event.Roll r k) rec = tt
event_playable number (event.Join r i) rec = tt
event_playable number (event.Admit r i) rec = tt
event_playable number (event.Remove r i) rec = tt
event_playable number (event.Ask r c m q) rec = tt
event_playable number (event.Want c w) rec = tt
event_playable number (event.Say c r) rec = tt
event_playable number (event.Hear c m) rec = tt
event_playable number (event.Margin r m) rec = tt
event_playable number (event.Again c) rec = tt

form_playable : (form : Form) → InRange form → IsPlayable (said_by form)
form_playable (EventForm number what) r = event_playable number what r.1
form_playable (RefusedForm f) r = tt
form_playable (RefusedByGroup f) r = tt
form_playable (LeadForm replica term) r = tt
form_playable (MembersForm replica index margin voters) r = tt
form_playable (HaltForm replica index kept offered) r = tt
form_playable (TakenForm replica at) r = tt
form_playable (CommitForm replica index entry) r = tt
form_playable (AnswerForm number replica client asked (answer.Outcome index what)) r = tt
form_playable (AnswerForm number replica client asked (answer.NotLeader id)) r = tt
form_playable (AnswerForm number replica client asked (answer.Busy waiting)) r = tt
form_playable (AnswerForm number replica client asked (answer.Undecided at kept offered)) r = tt
form_playable (AnswerForm number replica client asked (answer.Malformed offset)) r = tt
form_playable (AnswerForm number replica client asked (answer.Invalid part n)) r = tt
form_playable (AnswerForm number replica client asked (answer.Halted index)) r = tt
form_playable (SentForm number from to message) r = tt
form_playable (SavedForm replica state) r = tt
form_playable (ClientForm client what) r = tt
form_playable (LogForm n) r = tt
form_playable (RollbacksForm within) r = tt
form_playable (EndForm events messages answers) r = tt
form_playable (StoppedAtRecord number f) r = tt
form_playable (StoppedAtLimit which) r = tt
form_playable StoppedAtFrame r = tt

pub playable : (text : List ℕ) (what : TraceLine) → Says text what → IsPlayable what
playable text what (form, is_text, said) = subst IsPlayable said (form_playable form is_text.in_range)
