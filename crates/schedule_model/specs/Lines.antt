-- The lines of a trace: those of an event, of a batch, of a client's report, and those at the end.
use Rattle.std.specs.Prelude.{ℕ, Bool, true, false, if◌then◌else◌, List, [], ◌∷◌, ◌++◌, map, length, flat_map, option_map, option_to_list, codes, decimal, Option}
use Rattle.std.specs.List.{join_with_byte, enumerate_from}
use Rattle.hex.specs.Hex.{encode_lower}
use Rattle.values.specs.declared.batch.Batch.{Batch}
use Rattle.values.specs.declared.batch.Refusal.{Refusal}
use Rattle.values.specs.declared.batch.Refusal.TheVariants.{NotLeader, ChangePending, AlreadyVoter, NotVoter, TooFew, TooMany, NotCaughtUp, NoLink, LogFull, NoState, NotForMe, BadPeer, SameMargin}
use Rattle.values.specs.declared.entry.Body.{Body}
use Rattle.values.specs.declared.entry.Body.TheVariants as body
use Rattle.values.specs.declared.entry.Hash.{Hash}
use Rattle.values.specs.declared.entry.LogEntry.{LogEntry}
use Rattle.values.specs.declared.entry.Point.{Point}
use Rattle.values.specs.declared.event.Cause.{Cause}
use Rattle.values.specs.declared.event.Cause.TheVariants as cause
use Rattle.values.specs.declared.event.Event.{Event}
use Rattle.values.specs.declared.event.Event.TheVariants as event
use Rattle.values.specs.declared.ids.ClientId.{ClientId}
use Rattle.values.specs.declared.message.Answer.{Answer}
use Rattle.values.specs.declared.message.Answer.TheVariants as answer
use Rattle.values.specs.declared.message.Part.{Part}
use Rattle.values.specs.declared.message.Part.TheVariants as part
use Rattle.values.specs.declared.message.Reply.{Reply}
use Rattle.values.specs.declared.message.Reply.TheVariants as reply
use Rattle.values.specs.declared.peer.PeerMsg.{PeerMsg}
use Rattle.values.specs.declared.peer.PeerMsg.TheVariants as peer
use Rattle.values.specs.declared.want.Report.{Report}
use Rattle.values.specs.declared.want.Report.TheVariants as report
use Rattle.values.specs.declared.want.Want.{Want}
use Rattle.values.specs.declared.want.Want.TheVariants as want
use Rattle.schedule_model.specs.Reading.{RecordFault}
use Rattle.client_msgs.specs.Canonical.{canonical_response}
use Rattle.schedule_model.specs.Quantities.{Quantity, Events, Messages, Answers, Replicas, States, Clients}
use Rattle.schedule_model.specs.Refusals.{GroupRefusal, NoMessage, Lost, NotRunning, AlreadyStarted, NoSuchState, ClientBusy, WrongSize, NumbersOut, NothingInFlight, NoAnswer, NotYours}

-- a line is its fields, joined by commas and ended by a line feed
abbrev pub Line : Type 0
Line = List (List ℕ)

unfoldable pub line_text : Line → List ℕ
line_text fields = join_with_byte 44 fields ++ (10 ∷ [])

abbrev pub lines_text : List Line → List ℕ
lines_text lines = flat_map line_text lines

-- bytes as lower-case hexadecimal
abbrev pub hex : List ℕ → List ℕ
hex bytes = encode_lower bytes

abbrev pub want_fields : Want → Line
want_fields (want.Store secret pin tries) = codes "store" ∷ hex secret ∷ hex pin.0 ∷ decimal tries ∷ []
want_fields (want.Recover pin) = codes "recover" ∷ hex pin.0 ∷ []
want_fields want.Erase = codes "delete" ∷ []

-- the record of an event
abbrev pub record_fields : Event → Line
record_fields (event.Begin margin limit voters) = codes "begin" ∷ decimal margin ∷ decimal limit ∷ map decimal voters
record_fields (event.Start r) = codes "start" ∷ decimal r ∷ []
record_fields (event.Tick r) = codes "tick" ∷ decimal r ∷ []
record_fields (event.Deliver k) = codes "deliver" ∷ decimal k ∷ []
record_fields (event.Lose k) = codes "lose" ∷ decimal k ∷ []
record_fields (event.Settle n) = codes "settle" ∷ decimal n ∷ []
record_fields (event.Crash r) = codes "crash" ∷ decimal r ∷ []
record_fields (event.Save r) = codes "save" ∷ decimal r ∷ []
record_fields (event.Roll r k) = codes "roll" ∷ decimal r ∷ decimal k ∷ []
record_fields (event.Join r x) = codes "join" ∷ decimal r ∷ decimal x ∷ []
record_fields (event.Admit r x) = codes "admit" ∷ decimal r ∷ decimal x ∷ []
record_fields (event.Remove r x) = codes "remove" ∷ decimal r ∷ decimal x ∷ []
record_fields (event.Ask r c n bytes) = codes "ask" ∷ decimal r ∷ hex c.0 ∷ decimal n ∷ hex bytes ∷ []
record_fields (event.Want c w) = codes "want" ∷ hex c.0 ∷ want_fields w
record_fields (event.Say c r) = codes "say" ∷ hex c.0 ∷ decimal r ∷ []
record_fields (event.Hear c a) = codes "hear" ∷ hex c.0 ∷ decimal a ∷ []
record_fields (event.Margin r m) = codes "margin" ∷ decimal r ∷ decimal m ∷ []
record_fields (event.Again c) = codes "again" ∷ hex c.0 ∷ []

-- the line of the event of this number
abbrev pub event_line : ℕ → Event → Line
event_line number e = codes "event" ∷ decimal number ∷ record_fields e

-- the refusals of a replica, with their numbers
abbrev pub refusal_fields : Refusal → Line
refusal_fields (NotLeader known) = codes "notleader" ∷ decimal known ∷ []
refusal_fields (ChangePending newest committed) = codes "changepending" ∷ decimal newest ∷ decimal committed ∷ []
refusal_fields (AlreadyVoter id) = codes "alreadyvoter" ∷ decimal id ∷ []
refusal_fields (NotVoter id) = codes "notvoter" ∷ decimal id ∷ []
refusal_fields (TooFew n) = codes "toofew" ∷ decimal n ∷ []
refusal_fields (TooMany n) = codes "toomany" ∷ decimal n ∷ []
refusal_fields (NotCaughtUp mark committed) = codes "notcaughtup" ∷ decimal mark ∷ decimal committed ∷ []
refusal_fields (NoLink id) = codes "nolink" ∷ decimal id ∷ []
refusal_fields (LogFull last) = codes "logfull" ∷ decimal last ∷ []
refusal_fields (NoState k) = codes "nostate" ∷ decimal k ∷ []
refusal_fields (NotForMe to) = codes "notforme" ∷ decimal to ∷ []
refusal_fields (BadPeer offset) = codes "badpeer" ∷ decimal offset ∷ []
refusal_fields (SameMargin margin) = codes "samemargin" ∷ decimal margin ∷ []

abbrev pub part_word : Part → List ℕ
part_word part.Nothing = codes "nothing"
part_word part.Secret = codes "data"
part_word part.Pin = codes "pin"
part_word part.Tries = codes "tries"

abbrev pub group_refusal_fields : GroupRefusal → Line
group_refusal_fields (NoMessage k) = codes "nomessage" ∷ decimal k ∷ []
group_refusal_fields (Lost k) = codes "lost" ∷ decimal k ∷ []
group_refusal_fields (NotRunning r) = codes "notrunning" ∷ decimal r ∷ []
group_refusal_fields (AlreadyStarted r) = codes "alreadystarted" ∷ decimal r ∷ []
group_refusal_fields (NoSuchState k) = codes "nostate" ∷ decimal k ∷ []
group_refusal_fields ClientBusy = codes "clientbusy" ∷ []
group_refusal_fields (WrongSize p n) = codes "size" ∷ part_word p ∷ decimal n ∷ []
group_refusal_fields (NumbersOut last) = codes "numbersout" ∷ decimal last ∷ []
group_refusal_fields NothingInFlight = codes "nothing" ∷ []
group_refusal_fields (NoAnswer a) = codes "noanswer" ∷ decimal a ∷ []
group_refusal_fields (NotYours a) = codes "notyours" ∷ decimal a ∷ []

abbrev pub refused_line : Line → Line
refused_line fields = codes "refused" ∷ fields

-- the lines of a batch of the replica r, each from its item
abbrev pub lead_line : ℕ → ℕ → Line
lead_line r term = codes "lead" ∷ decimal r ∷ decimal term ∷ []

abbrev pub members_line : ℕ → ℕ × ℕ × List ℕ → Line
members_line r (index, margin, voters) = codes "members" ∷ decimal r ∷ decimal index ∷ decimal margin ∷ map decimal voters

abbrev pub halt_line : ℕ → ℕ × Hash × Hash → Line
halt_line r (index, kept, offered) = codes "halt" ∷ decimal r ∷ decimal index ∷ hex kept.0 ∷ hex offered.0 ∷ []

abbrev pub taken_line : ℕ → Point → Line
taken_line r p = codes "taken" ∷ decimal r ∷ decimal p.index ∷ hex p.hash.0 ∷ []

abbrev pub body_fields : Body → Line
body_fields body.Noop = codes "noop" ∷ []
body_fields (body.Ask client number request) = codes "ask" ∷ hex client.0 ∷ decimal number ∷ hex request ∷ []
body_fields (body.Members margin voters) = codes "members" ∷ decimal margin ∷ map decimal voters

abbrev pub commit_line : ℕ → ℕ × LogEntry → Line
commit_line r (index, entry) = codes "commit" ∷ decimal r ∷ decimal index ∷ decimal entry.term ∷ body_fields entry.body

abbrev pub reply_fields : Reply → Line
reply_fields (reply.Applied response) = codes "done" ∷ hex (canonical_response response) ∷ []
reply_fields (reply.Stale last) = codes "stale" ∷ decimal last ∷ []
reply_fields (reply.TableFull rows) = codes "full" ∷ decimal rows ∷ []

abbrev pub answer_fields : Answer → Line
answer_fields (answer.Outcome index what) = codes "outcome" ∷ decimal index ∷ reply_fields what
answer_fields (answer.NotLeader id) = codes "notleader" ∷ decimal id ∷ []
answer_fields (answer.Busy waiting) = codes "busy" ∷ decimal waiting ∷ []
answer_fields (answer.Undecided at kept offered) = codes "undecided" ∷ decimal at ∷ hex kept.0 ∷ hex offered.0 ∷ []
answer_fields (answer.Malformed offset) = codes "malformed" ∷ decimal offset ∷ []
answer_fields (answer.Invalid p n) = codes "invalid" ∷ part_word p ∷ decimal n ∷ []
answer_fields (answer.Halted index) = codes "halted" ∷ decimal index ∷ []

-- with the number that it has over the run
abbrev pub answer_line : ℕ → ℕ × (ClientId × ℕ × Answer) → Line
answer_line r (number, (client, asked, what)) = codes "answer" ∷ decimal number ∷ decimal r ∷ hex client.0 ∷ decimal asked ∷ answer_fields what

abbrev pub bit : Bool → ℕ
bit granted = if granted then 1 else 0

abbrev pub message_fields : PeerMsg → Line
message_fields (peer.AskVote term last_index last_term) = codes "askvote" ∷ decimal term ∷ decimal last_index ∷ decimal last_term ∷ []
message_fields (peer.Vote term granted) = codes "vote" ∷ decimal term ∷ decimal (bit granted) ∷ []
message_fields (peer.Append term prev entries promise commit) =
    codes "append" ∷ decimal term ∷ decimal prev.index ∷ decimal (length entries) ∷ decimal promise ∷ decimal commit ∷ []
message_fields (peer.Accepted term end promised) = codes "accepted" ∷ decimal term ∷ decimal end.index ∷ decimal promised ∷ []
message_fields (peer.Rejected term asked hint) = codes "rejected" ∷ decimal term ∷ decimal asked ∷ decimal hint ∷ []
message_fields (peer.Part term p) =
    codes "part" ∷ decimal term ∷ decimal p.point.index ∷ decimal p.part ∷ decimal p.parts ∷ decimal (length p.rows) ∷ []
message_fields (peer.PartTaken term at next) = codes "parttaken" ∷ decimal term ∷ decimal at.index ∷ decimal next ∷ []

-- with the number that it has over the run
abbrev pub sent_line : ℕ → ℕ × (ℕ × PeerMsg) → Line
sent_line r (number, (to, message)) = codes "sent" ∷ decimal number ∷ decimal r ∷ decimal to ∷ message_fields message

abbrev pub saved_line : ℕ → ℕ → Line
saved_line r k = codes "saved" ∷ decimal r ∷ decimal k ∷ []

abbrev pub item_line : {A : Type 0} → (A → Line) → Option A → List Line
item_line line item = option_to_list (option_map line item)

-- the lines of a batch in its order. Its messages and answers are numbered from these on
abbrev pub batch_lines : ℕ → ℕ → ℕ → Batch → List Line
batch_lines r first_message first_answer b =
    item_line (lead_line r) b.lead
    ++ (map (members_line r) b.members
    ++ (item_line (halt_line r) b.halt
    ++ (item_line (taken_line r) b.taken
    ++ (map (commit_line r) b.commits
    ++ (map (answer_line r) (enumerate_from first_answer b.answers)
    ++ (map (sent_line r) (enumerate_from first_message b.sent)
    ++ (item_line (saved_line r) b.saved
    ++ item_line (λ refusal. refused_line (refusal_fields refusal)) b.refused)))))))

abbrev pub report_fields : Report → Line
report_fields report.Stored = codes "stored" ∷ []
report_fields (report.Recovered secret left) = codes "recovered" ∷ hex secret ∷ decimal left ∷ []
report_fields (report.WrongPin left) = codes "wrongpin" ∷ decimal left ∷ []
report_fields report.Missing = codes "missing" ∷ []
report_fields report.Deleted = codes "deleted" ∷ []
report_fields report.ExposeError = codes "exposeerror" ∷ []
report_fields (report.Full rows) = codes "full" ∷ decimal rows ∷ []
report_fields (report.Undecided last) = codes "undecided" ∷ decimal last ∷ []

abbrev pub client_line : ClientId → Report → Line
client_line client what = codes "client" ∷ hex client.0 ∷ report_fields what

-- the three closing lines
abbrev pub bound_word : Bool → List ℕ
bound_word true = codes "within"
bound_word false = codes "exceeded"

abbrev pub log_line : ℕ → Line
log_line n = codes "log" ∷ decimal n ∷ []

abbrev pub rollbacks_line : Bool → Line
rollbacks_line within = codes "rollbacks" ∷ bound_word within ∷ []

abbrev pub end_line : ℕ → ℕ → ℕ → Line
end_line events messages answers = codes "end" ∷ decimal events ∷ decimal messages ∷ decimal answers ∷ []

abbrev pub closing_lines : ℕ → Bool → ℕ → ℕ → ℕ → List Line
closing_lines log within events messages answers = log_line log ∷ rollbacks_line within ∷ end_line events messages answers ∷ []

abbrev pub cause_word : Cause → List ℕ
cause_word cause.Word = codes "word"
cause_word cause.Fields = codes "fields"
cause_word cause.NoBegin = codes "nobegin"
cause_word cause.SecondBegin = codes "secondbegin"
cause_word cause.Number = codes "number"
cause_word cause.Range = codes "range"
cause_word cause.Hex = codes "hex"
cause_word cause.TooMany = codes "toomany"
cause_word cause.Double = codes "double"
cause_word cause.TooFew = codes "toofew"

abbrev pub quantity_word : Quantity → List ℕ
quantity_word Events = codes "events"
quantity_word Messages = codes "messages"
quantity_word Answers = codes "answers"
quantity_word Replicas = codes "replicas"
quantity_word States = codes "states"
quantity_word Clients = codes "clients"

-- the last line of a text that ends early: at the record of this number, at a limit, at a content that is no batch
abbrev pub stopped_at_record : ℕ → RecordFault → Line
stopped_at_record number f = codes "stopped" ∷ codes "schedule" ∷ decimal number ∷ cause_word f.cause ∷ decimal f.field ∷ []

abbrev pub stopped_at_limit : Quantity → Line
stopped_at_limit which = codes "stopped" ∷ codes "limit" ∷ quantity_word which ∷ []

abbrev pub stopped_at_frame : Line
stopped_at_frame = codes "stopped" ∷ codes "frame" ∷ []
