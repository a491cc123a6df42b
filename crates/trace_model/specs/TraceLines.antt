-- The lines that a trace may have, read again: each is what is printed of values in their ranges.
use Rattle.std.specs.Prelude.{◌≡◌, ℕ, ◌==◌, ◌&&◌, nat_le, nat_lt, not, Bool, true, false, List, [], ◌∷◌, length, Some, is_none, IsTrue, Ok}
use Rattle.std.specs.List.{AllByRecursion, join_with_byte, list_all}
use Rattle.group_quorum.specs.Voters.{fault_of}
use Rattle.group_quorum.specs.declared.TheConstants.{MAX_ID, MAX_MARGIN}
use Rattle.values.specs.declared.batch.Refusal.{Refusal}
use Rattle.values.specs.declared.batch.Refusal.TheVariants as refusal
use Rattle.values.specs.declared.entry.Body.{Body}
use Rattle.values.specs.declared.entry.Body.TheVariants.{Noop, Ask, Members as MembersBody}
use Rattle.values.specs.declared.entry.Hash.{Hash}
use Rattle.values.specs.declared.entry.LogEntry.{LogEntry}
use Rattle.values.specs.declared.entry.Point.{Point}
use Rattle.values.specs.declared.event.Event.{Event}
use Rattle.values.specs.declared.event.Event.TheVariants as event
use Rattle.values.specs.declared.ids.ClientId.{ClientId}
use Rattle.values.specs.declared.message.Answer.{Answer}
use Rattle.values.specs.declared.message.Answer.TheVariants as answer
use Rattle.values.specs.declared.message.Reply.{Reply}
use Rattle.values.specs.declared.message.Reply.TheVariants as reply
use Rattle.values.specs.declared.message.Response.{Response}
use Rattle.values.specs.declared.message.Response.TheVariants as response
use Rattle.values.specs.declared.peer.PeerMsg.{PeerMsg}
use Rattle.values.specs.declared.peer.PeerMsg.TheVariants as peer
use Rattle.values.specs.declared.want.Report.{Report}
use Rattle.values.specs.declared.want.Report.TheVariants as report
use Rattle.client_msgs.specs.Strict.{IsCanonical}
use Rattle.values.specs.declared.limits.TheConstants.{TOP}
use Rattle.schedule_model.specs.Reading.{RecordFault, max_u32, max_u64}
use Rattle.schedule_model.specs.Records.{event_of}
use Rattle.schedule_model.specs.Lines.{Line, record_fields, event_line, refused_line, refusal_fields, group_refusal_fields, lead_line, members_line, halt_line, taken_line, commit_line, answer_line, sent_line, saved_line, client_line, log_line, rollbacks_line, end_line, stopped_at_record, stopped_at_limit, stopped_at_frame}
use Rattle.schedule_model.specs.Refusals.{GroupRefusal, NoMessage, Lost, NotRunning, AlreadyStarted, NoSuchState, ClientBusy, WrongSize, NumbersOut, NothingInFlight, NoAnswer, NotYours}
use Rattle.schedule_model.specs.Quantities.{Quantity}

-- the bytes of a line, without its line feed
abbrev pub joined : Line → List ℕ
joined fields = join_with_byte 44 fields

-- ranges
abbrev pub is_u64 : ℕ → Bool
is_u64 n = nat_le n max_u64

abbrev pub is_u32 : ℕ → Bool
is_u32 n = nat_le n max_u32

abbrev pub is_replica : ℕ → Bool
is_replica r = nat_le 1 r && nat_le r MAX_ID

-- an index or a term
abbrev pub is_index : ℕ → Bool
is_index i = nat_le i TOP

abbrev pub is_byte : ℕ → Bool
is_byte b = nat_lt b 256

abbrev pub is_bytes : ℕ → List ℕ → Bool
is_bytes n bytes = (length bytes == n) && list_all is_byte bytes

abbrev pub is_hash : Hash → Bool
is_hash h = is_bytes 32 h.0

abbrev pub is_client_id : ClientId → Bool
is_client_id c = is_bytes 16 c.0

-- the margin and the voters of a Members entry: rising ids without a fault
abbrev pub is_rising : List ℕ → Bool
is_rising [] = true
is_rising (v ∷ []) = true
is_rising (v ∷ w ∷ vs) = nat_lt v w && is_rising (w ∷ vs)

abbrev pub is_members : ℕ → List ℕ → Bool
is_members margin voters = nat_le margin MAX_MARGIN && (nat_le 1 (length voters) && (is_rising voters && is_none (fault_of margin voters)))

abbrev pub IsBody : Body → Type 0
IsBody Noop = Unit {0}
IsBody (Ask client number request) = IsTrue (is_client_id client && (is_u64 number && list_all is_byte request)) × IsCanonical request
IsBody (MembersBody margin voters) = IsTrue (is_members margin voters)

abbrev pub is_response : Response → Bool
is_response (response.Backup status) = is_u32 status
is_response (response.Restore status secret tries) = is_u32 status && (list_all is_byte secret && is_u32 tries)
is_response response.Delete = true
is_response (response.Expose status) = is_u32 status

abbrev pub is_reply : Reply → Bool
is_reply (reply.Applied what) = is_response what
is_reply (reply.Stale last) = is_u64 last
is_reply (reply.TableFull rows) = is_u32 rows

-- an event line's record is one without a fault that reads as this event, which is no settle
abbrev pub is_begin : Event → Bool
is_begin (event.Begin margin limit voters) = true
is_begin e = false

abbrev pub IsNoSettle : Event → Type 0
IsNoSettle (event.Settle n) = ⊥
IsNoSettle e = Unit {0}

abbrev pub IsRecord : Event → Type 0
IsRecord e = IsNoSettle e × (event_of false (not (is_begin e)) (record_fields e) ≡ Ok (Some e))

-- what a message's line tells of it is in range
abbrev pub is_message : PeerMsg → Bool
is_message (peer.AskVote term last_index last_term) = is_index term && (is_index last_index && is_index last_term)
is_message (peer.Vote term granted) = is_index term
is_message (peer.Append term prev entries promise commit) = is_index term && (is_index prev.index && (is_u64 (length entries) && (is_index promise && is_index commit)))
is_message (peer.Accepted term end promised) = is_index term && (is_index end.index && is_index promised)
is_message (peer.Rejected term asked hint) = is_index term && (is_index asked && is_index hint)
is_message (peer.Part term p) = is_index term && (is_index p.point.index && (is_u64 p.part && (is_u64 p.parts && is_u32 (length p.rows))))
is_message (peer.PartTaken term at next) = is_index term && (is_index at.index && is_u64 next)

abbrev pub is_report : Report → Bool
is_report (report.Recovered secret left) = list_all is_byte secret && is_u32 left
is_report (report.WrongPin left) = is_u32 left
is_report (report.Full rows) = is_u32 rows
is_report (report.Undecided last) = is_u64 last
is_report other = true

-- the numbers of a refused line
abbrev pub refusal_numbers : Refusal → List ℕ
refusal_numbers (refusal.NotLeader known) = known ∷ []
refusal_numbers (refusal.ChangePending newest committed) = newest ∷ committed ∷ []
refusal_numbers (refusal.AlreadyVoter id) = id ∷ []
refusal_numbers (refusal.NotVoter id) = id ∷ []
refusal_numbers (refusal.TooFew n) = n ∷ []
refusal_numbers (refusal.TooMany n) = n ∷ []
refusal_numbers (refusal.NotCaughtUp mark committed) = mark ∷ committed ∷ []
refusal_numbers (refusal.NoLink id) = id ∷ []
refusal_numbers (refusal.LogFull last) = last ∷ []
refusal_numbers (refusal.NoState k) = k ∷ []
refusal_numbers (refusal.NotForMe to) = to ∷ []
refusal_numbers (refusal.BadPeer offset) = offset ∷ []
refusal_numbers (refusal.SameMargin margin) = margin ∷ []

abbrev pub group_refusal_numbers : GroupRefusal → List ℕ
group_refusal_numbers (NoMessage k) = k ∷ []
group_refusal_numbers (Lost k) = k ∷ []
group_refusal_numbers (NotRunning r) = r ∷ []
group_refusal_numbers (AlreadyStarted r) = r ∷ []
group_refusal_numbers (NoSuchState k) = k ∷ []
group_refusal_numbers ClientBusy = []
group_refusal_numbers (WrongSize p n) = n ∷ []
group_refusal_numbers (NumbersOut last) = last ∷ []
group_refusal_numbers NothingInFlight = []
group_refusal_numbers (NoAnswer a) = a ∷ []
group_refusal_numbers (NotYours a) = a ∷ []

-- a line of a trace, by what it tells
pub data Form : Type 0 where
  EventForm : (number : ℕ) (what : Event) → Form
  RefusedForm : (by_replica : Refusal) → Form
  RefusedByGroup : (by_group : GroupRefusal) → Form
  LeadForm : (replica term : ℕ) → Form
  MembersForm : (replica index margin : ℕ) (voters : List ℕ) → Form
  HaltForm : (replica index : ℕ) (kept offered : Hash) → Form
  TakenForm : (replica : ℕ) (at : Point) → Form
  CommitForm : (replica index : ℕ) (entry : LogEntry) → Form
  AnswerForm : (number replica : ℕ) (client : ClientId) (asked : ℕ) (what : Answer) → Form
  SentForm : (number from to : ℕ) (message : PeerMsg) → Form
  SavedForm : (replica state : ℕ) → Form
  ClientForm : (client : ClientId) (what : Report) → Form
  LogForm : (length : ℕ) → Form
  RollbacksForm : (within : Bool) → Form
  EndForm : (events messages answers : ℕ) → Form
  StoppedAtRecord : (number : ℕ) (fault : RecordFault) → Form
  StoppedAtLimit : (which : Quantity) → Form
  StoppedAtFrame : Form

-- the fields that are printed of it
abbrev pub form_fields : Form → Line
form_fields (EventForm number what) = event_line number what
form_fields (RefusedForm r) = refused_line (refusal_fields r)
form_fields (RefusedByGroup r) = refused_line (group_refusal_fields r)
form_fields (LeadForm r term) = lead_line r term
form_fields (MembersForm r index margin voters) = members_line r (index, margin, voters)
form_fields (HaltForm r index kept offered) = halt_line r (index, kept, offered)
form_fields (TakenForm r at) = taken_line r at
form_fields (CommitForm r index entry) = commit_line r (index, entry)
form_fields (AnswerForm number r client asked what) = answer_line r (number, (client, asked, what))
form_fields (SentForm number from to message) = sent_line from (number, (to, message))
form_fields (SavedForm r k) = saved_line r k
form_fields (ClientForm client what) = client_line client what
form_fields (LogForm n) = log_line n
form_fields (RollbacksForm within) = rollbacks_line within
form_fields (EndForm events messages answers) = end_line events messages answers
form_fields (StoppedAtRecord number f) = stopped_at_record number f
form_fields (StoppedAtLimit which) = stopped_at_limit which
form_fields StoppedAtFrame = stopped_at_frame

-- no field holds a comma or a line feed, so that a trace is cut into its lines, and a line into its fields
abbrev pub is_plain : ℕ → Bool
is_plain b = not (b == 44) && not (b == 10)

abbrev pub FieldsArePlain : Type 0
FieldsArePlain = (form : Form) → AllByRecursion (λ (field : List ℕ). IsTrue (list_all is_plain field)) (form_fields form)

-- what an answer's line tells is in range
abbrev pub is_answer : Answer → Bool
is_answer (answer.Outcome index what) = is_index index && is_reply what
is_answer (answer.NotLeader id) = nat_le id MAX_ID
is_answer (answer.Busy waiting) = is_u64 waiting
is_answer (answer.Undecided at kept offered) = is_index at && (is_hash kept && is_hash offered)
is_answer (answer.Malformed offset) = is_u64 offset
is_answer (answer.Invalid part n) = is_u64 n
is_answer (answer.Halted index) = is_index index

-- and what any line tells
abbrev pub InRange : Form → Type 0
InRange (EventForm number what) = IsTrue (is_u64 number) × IsRecord what
InRange (RefusedForm r) = IsTrue (list_all is_u64 (refusal_numbers r))
InRange (RefusedByGroup r) = IsTrue (list_all is_u64 (group_refusal_numbers r))
InRange (LeadForm r term) = IsTrue (is_replica r && is_index term)
InRange (MembersForm r index margin voters) = IsTrue (is_replica r && (is_index index && is_members margin voters))
InRange (HaltForm r index kept offered) = IsTrue (is_replica r && (is_index index && (is_hash kept && is_hash offered)))
InRange (TakenForm r at) = IsTrue (is_replica r && (is_index at.index && is_hash at.hash))
InRange (CommitForm r index entry) = IsTrue (is_replica r && (is_index index && is_index entry.term)) × IsBody entry.body
InRange (AnswerForm number r client asked what) = IsTrue (is_u64 number && (is_replica r && (is_client_id client && (is_u64 asked && is_answer what))))
InRange (SentForm number from to message) = IsTrue (is_u64 number && (is_replica from && (is_replica to && is_message message)))
InRange (SavedForm r k) = IsTrue (is_replica r && is_u64 k)
InRange (ClientForm client what) = IsTrue (is_client_id client && is_report what)
InRange (LogForm n) = IsTrue (is_u64 n)
InRange (RollbacksForm within) = Unit {0}
InRange (EndForm events messages answers) = IsTrue (is_u64 events && (is_u64 messages && is_u64 answers))
InRange (StoppedAtRecord number f) = IsTrue (is_u64 number && is_u64 f.field)
InRange (StoppedAtLimit which) = Unit {0}
InRange StoppedAtFrame = Unit {0}

-- what a line says of which an auditor makes use; the other forms say nothing to it
pub data TraceLine : Type 0 where
  EventLine : (number : ℕ) (what : Event) → TraceLine
  Commit : (replica index : ℕ) (entry : LogEntry) → TraceLine
  Outcome : (client : ClientId) (number index : ℕ) (reply : Reply) → TraceLine
  Members : (margin : ℕ) (voters : List ℕ) → TraceLine
  Refused : TraceLine
  LogEnd : (length : ℕ) → TraceLine
  Rollbacks : (within : Bool) → TraceLine
  End : TraceLine
  Stopped : TraceLine
  Other : TraceLine

abbrev pub answer_said : ClientId → ℕ → Answer → TraceLine
answer_said client number (answer.Outcome index what) = Outcome client number index what
answer_said client number other = Other

abbrev pub said_by : Form → TraceLine
said_by (EventForm number what) = EventLine number what
said_by (RefusedForm r) = Refused
said_by (RefusedByGroup r) = Refused
said_by (LeadForm r term) = Other
said_by (MembersForm r index margin voters) = Members margin voters
said_by (HaltForm r index kept offered) = Other
said_by (TakenForm r at) = Other
said_by (CommitForm r index entry) = Commit r index entry
said_by (AnswerForm number r client asked what) = answer_said client asked what
said_by (SentForm number from to message) = Other
said_by (SavedForm r k) = Other
said_by (ClientForm client what) = Other
said_by (LogForm n) = LogEnd n
said_by (RollbacksForm within) = Rollbacks within
said_by (EndForm events messages answers) = End
said_by (StoppedAtRecord number f) = Stopped
said_by (StoppedAtLimit which) = Stopped
said_by StoppedAtFrame = Stopped

-- the most bytes of a line
abbrev pub max_line : ℕ
max_line = 68000000

-- a line, without its line feed, is what is printed of this form
pub record IsText (text : List ℕ) (form : Form) : Type 0 where
  pub short : IsTrue (nat_le (length text) max_line)
  pub printed : text ≡ joined (form_fields form)
  pub in_range : InRange form

-- it says this
abbrev pub Says : List ℕ → TraceLine → Type 0
Says text what = (form : Form) × IsText text form × (said_by form ≡ what)
