-- No field of a line holds a comma or a line feed.
use Rattle.std.proofs.Common.{◌≡◌, ℕ, ◌+◌, ◌==◌, ◌/◌, ◌%◌, zero, suc, not, Bool, true, false, nat_lt, List, [], ◌∷◌, ◌++◌, length, map, refl, sym, ap, subst, ◌∙◌, Option, Some, append_assoc, arith}
use Rattle.std.specs.Prelude.{IsTrue, decimal, nat_le, slice_index}
use Rattle.std.specs.Fmt.{digits, digits_onto, digit_glyph}
use Rattle.std.specs.List.{AllByRecursion, AllZip, list_all, join_with_byte}
use Rattle.std.proofs.lemmas.Bool.{cond_both, and_from, and_parts, ne_eqb, not_from_false}
use Rattle.hex.specs.Hex.{encode_with, lower_digits}
use Rattle.values.specs.declared.batch.Refusal.{Refusal}
use Rattle.values.specs.declared.batch.Refusal.TheVariants as refusal
use Rattle.values.specs.declared.entry.Body.{Body}
use Rattle.values.specs.declared.entry.Body.TheVariants as body
use Rattle.values.specs.declared.event.Cause.{Cause}
use Rattle.values.specs.declared.event.Cause.TheVariants as cause
use Rattle.values.specs.declared.event.Event.{Event}
use Rattle.values.specs.declared.event.Event.TheVariants as event
use Rattle.values.specs.declared.message.Answer.{Answer}
use Rattle.values.specs.declared.message.Answer.TheVariants as answer
use Rattle.values.specs.declared.message.Part.{Part}
use Rattle.values.specs.declared.message.Part.TheVariants as part
use Rattle.values.specs.declared.message.Reply.{Reply}
use Rattle.values.specs.declared.message.Reply.TheVariants as reply
use Rattle.values.specs.declared.peer.PeerMsg.{PeerMsg}
use Rattle.values.specs.declared.peer.PeerMsg.TheVariants as peer
use Rattle.values.specs.declared.want.Report.{Report}
use Rattle.values.specs.declared.want.Report.TheVariants as report
use Rattle.values.specs.declared.want.Want.{Want}
use Rattle.values.specs.declared.want.Want.TheVariants as want
use Rattle.client_msgs.specs.Canonical.{canonical_response}
use Rattle.schedule_model.specs.Lines.{Line, line_text, lines_text, hex, want_fields, record_fields, refusal_fields, part_word, group_refusal_fields, body_fields, reply_fields, answer_fields, bit, message_fields, report_fields, bound_word, cause_word, quantity_word}
use Rattle.schedule_model.specs.Refusals.{GroupRefusal, NoMessage, Lost, NotRunning, AlreadyStarted, NoSuchState, ClientBusy, WrongSize, NumbersOut, NothingInFlight, NoAnswer, NotYours}
use Rattle.schedule_model.specs.Quantities.{Quantity, Events, Messages, Answers, Replicas, States, Clients}
use Rattle.trace_model.specs.TraceLines.{Form, EventForm, RefusedForm, RefusedByGroup, LeadForm, MembersForm, HaltForm, TakenForm, CommitForm, AnswerForm, SentForm, SavedForm, ClientForm, LogForm, RollbacksForm, EndForm, StoppedAtRecord, StoppedAtLimit, StoppedAtFrame, form_fields, is_plain}

abbrev IsPlain : List ℕ → Type 0
IsPlain field = IsTrue (list_all is_plain field)

abbrev ArePlain : Line → Type 0
ArePlain fields = AllByRecursion IsPlain fields

is_apart : (x : ℕ) → (x ≡ 44 → ⊥) → (x ≡ 10 → ⊥) → is_plain x ≡ true
is_apart x comma feed = and_from (not (x == 44)) (not (x == 10)) (not_from_false (x == 44) (ne_eqb x 44 comma)) (not_from_false (x == 10) (ne_eqb x 10 feed))

glyph_plain : (d : ℕ) → is_plain (digit_glyph false d) ≡ true
glyph_plain d = cond_both (nat_lt d 10) (48 + d) (87 + d) (λ x. is_plain x ≡ true)
    (λ b. is_apart (48 + d) (λ is. absurd (omega arith)) (λ is. absurd (omega arith)))
    (λ b. is_apart (87 + d) (λ is. absurd (omega arith)) (λ is. absurd (omega arith)))

digits_plain : (k n : ℕ) (acc : List ℕ) → IsPlain acc → IsPlain (digits_onto k 10 false n acc)
digits_plain zero n acc h = h
digits_plain (suc k) n acc h =
    let more : IsPlain (digit_glyph false (n % 10) ∷ acc) = and_from (is_plain (digit_glyph false (n % 10))) (list_all is_plain acc) (glyph_plain (n % 10)) h in
    cond_both (n / 10 == 0) (digit_glyph false (n % 10) ∷ acc) (digits_onto k 10 false (n / 10) (digit_glyph false (n % 10) ∷ acc)) IsPlain
    (λ b. more)
    (λ b. digits_plain k (n / 10) (digit_glyph false (n % 10) ∷ acc) more)

decimal_plain : (n : ℕ) → IsPlain (decimal n)
unfolding digits
decimal_plain n = digits_plain 64 n [] refl

get_plain : (table : List ℕ) (k : ℕ) → IsPlain table → is_plain (slice_index table k) ≡ true
get_plain [] k h = refl
get_plain (x ∷ table) zero h = (and_parts (is_plain x) (list_all is_plain table) h).0
get_plain (x ∷ table) (suc k) h = get_plain table k (and_parts (is_plain x) (list_all is_plain table) h).1

table_plain : (k : ℕ) → is_plain (slice_index lower_digits k) ≡ true
table_plain k = get_plain lower_digits k refl

hex_plain : (bytes : List ℕ) → IsPlain (hex bytes)
unfolding encode_with
hex_plain [] = refl
hex_plain (b ∷ bytes) =
    and_from (is_plain (slice_index lower_digits (b / 16))) _ (table_plain (b / 16))
    (and_from (is_plain (slice_index lower_digits (b % 16))) (list_all is_plain (encode_with lower_digits bytes)) (table_plain (b % 16)) (hex_plain bytes))

decimals_plain : (ns : List ℕ) → ArePlain (map decimal ns)
decimals_plain [] = tt
decimals_plain (n ∷ ns) = (decimal_plain n, decimals_plain ns)

want_plain : (w : Want) → ArePlain (want_fields w)
want_plain (want.Store secret pin tries) = (refl, (hex_plain secret, (hex_plain pin.0, (decimal_plain tries, tt))))
want_plain (want.Recover pin) = (refl, (hex_plain pin.0, tt))
want_plain want.Erase = (refl, tt)

record_plain : (e : Event) → ArePlain (record_fields e)
record_plain (event.Begin margin limit voters) = (refl, (decimal_plain margin, (decimal_plain limit, decimals_plain voters)))
record_plain (event.Start r) = (refl, (decimal_plain r, tt))
record_plain (event.Tick r) = (refl, (decimal_plain r, tt))
record_plain (event.Deliver k) = (refl, (decimal_plain k, tt))
record_plain (event.Lose k) = (refl, (decimal_plain k, tt))
record_plain (event.Settle n) = (refl, (decimal_plain n, tt))
record_plain (event.Crash r) = (refl, (decimal_plain r, tt))
record_plain (event.Save r) = (refl, (decimal_plain r, tt))
record_plain (event.Roll r k) = (refl, (decimal_plain r, (decimal_plain k, tt)))
record_plain (event.Join r x) = (refl, (decimal_plain r, (decimal_plain x, tt)))
record_plain (event.Admit r x) = (refl, (decimal_plain r, (decimal_plain x, tt)))
record_plain (event.Remove r x) = (refl, (decimal_plain r, (decimal_plain x, tt)))
record_plain (event.Ask r c n bytes) = (refl, (decimal_plain r, (hex_plain c.0, (decimal_plain n, (hex_plain bytes, tt)))))
record_plain (event.Want c w) = (refl, (hex_plain c.0, want_plain w))
record_plain (event.Say c r) = (refl, (hex_plain c.0, (decimal_plain r, tt)))
record_plain (event.Hear c a) = (refl, (hex_plain c.0, (decimal_plain a, tt)))
record_plain (event.Margin r m) = (refl, (decimal_plain r, (decimal_plain m, tt)))
record_plain (event.Again c) = (refl, (hex_plain c.0, tt))

refusal_plain : (r : Refusal) → ArePlain (refusal_fields r)
refusal_plain (refusal.NotLeader known) = (refl, (decimal_plain known, tt))
refusal_plain (refusal.ChangePending newest committed) = (refl, (decimal_plain newest, (decimal_plain committed, tt)))
refusal_plain (refusal.AlreadyVoter id) = (refl, (decimal_plain id, tt))
refusal_plain (refusal.NotVoter id) = (refl, (decimal_plain id, tt))
refusal_plain (refusal.TooFew n) = (refl, (decimal_plain n, tt))
refusal_plain (refusal.TooMany n) = (refl, (decimal_plain n, tt))
refusal_plain (refusal.NotCaughtUp mark committed) = (refl, (decimal_plain mark, (decimal_plain committed, tt)))
refusal_plain (refusal.NoLink id) = (refl, (decimal_plain id, tt))
refusal_plain (refusal.LogFull last) = (refl, (decimal_plain last, tt))
refusal_plain (refusal.NoState k) = (refl, (decimal_plain k, tt))
refusal_plain (refusal.NotForMe to) = (refl, (decimal_plain to, tt))
refusal_plain (refusal.BadPeer offset) = (refl, (decimal_plain offset, tt))
refusal_plain (refusal.SameMargin margin) = (refl, (decimal_plain margin, tt))

part_plain : (p : Part) → IsPlain (part_word p)
part_plain part.Nothing = refl
part_plain part.Secret = refl
part_plain part.Pin = refl
part_plain part.Tries = refl

group_plain : (r : GroupRefusal) → ArePlain (group_refusal_fields r)
group_plain (NoMessage k) = (refl, (decimal_plain k, tt))
group_plain (Lost k) = (refl, (decimal_plain k, tt))
group_plain (NotRunning r) = (refl, (decimal_plain r, tt))
group_plain (AlreadyStarted r) = (refl, (decimal_plain r, tt))
group_plain (NoSuchState k) = (refl, (decimal_plain k, tt))
group_plain ClientBusy = (refl, tt)
group_plain (WrongSize p n) = (refl, (part_plain p, (decimal_plain n, tt)))
group_plain (NumbersOut last) = (refl, (decimal_plain last, tt))
group_plain NothingInFlight = (refl, tt)
group_plain (NoAnswer a) = (refl, (decimal_plain a, tt))
group_plain (NotYours a) = (refl, (decimal_plain a, tt))

body_plain : (b : Body) → ArePlain (body_fields b)
body_plain body.Noop = (refl, tt)
body_plain (body.Ask client number request) = (refl, (hex_plain client.0, (decimal_plain number, (hex_plain request, tt))))
body_plain (body.Members margin voters) = (refl, (decimal_plain margin, decimals_plain voters))

reply_plain : (r : Reply) → ArePlain (reply_fields r)
reply_plain (reply.Applied what) = (refl, (hex_plain (canonical_response what), tt))
reply_plain (reply.Stale last) = (refl, (decimal_plain last, tt))
reply_plain (reply.TableFull rows) = (refl, (decimal_plain rows, tt))

answer_plain : (a : Answer) → ArePlain (answer_fields a)
answer_plain (answer.Outcome index what) = (refl, (decimal_plain index, reply_plain what))
answer_plain (answer.NotLeader id) = (refl, (decimal_plain id, tt))
answer_plain (answer.Busy waiting) = (refl, (decimal_plain waiting, tt))
answer_plain (answer.Undecided at kept offered) = (refl, (decimal_plain at, (hex_plain kept.0, (hex_plain offered.0, tt))))
answer_plain (answer.Malformed offset) = (refl, (decimal_plain offset, tt))
answer_plain (answer.Invalid p n) = (refl, (part_plain p, (decimal_plain n, tt)))
answer_plain (answer.Halted index) = (refl, (decimal_plain index, tt))

message_plain : (m : PeerMsg) → ArePlain (message_fields m)
message_plain (peer.AskVote term last_index last_term) = (refl, (decimal_plain term, (decimal_plain last_index, (decimal_plain last_term, tt))))
message_plain (peer.Vote term granted) = (refl, (decimal_plain term, (decimal_plain (bit granted), tt)))
message_plain (peer.Append term prev entries promise commit) = (refl, (decimal_plain term, (decimal_plain prev.index, (decimal_plain (length entries), (decimal_plain promise, (decimal_plain commit, tt))))))
message_plain (peer.Accepted term end promised) = (refl, (decimal_plain term, (decimal_plain end.index, (decimal_plain promised, tt))))
message_plain (peer.Rejected term asked hint) = (refl, (decimal_plain term, (decimal_plain asked, (decimal_plain hint, tt))))
message_plain (peer.Part term p) = (refl, (decimal_plain term, (decimal_plain p.point.index, (decimal_plain p.part, (decimal_plain p.parts, (decimal_plain (length p.rows), tt))))))
message_plain (peer.PartTaken term at next) = (refl, (decimal_plain term, (decimal_plain at.index, (decimal_plain next, tt))))

report_plain : (r : Report) → ArePlain (report_fields r)
report_plain report.Stored = (refl, tt)
report_plain (report.Recovered secret left) = (refl, (hex_plain secret, (decimal_plain left, tt)))
report_plain (report.WrongPin left) = (refl, (decimal_plain left, tt))
report_plain report.Missing = (refl, tt)
report_plain report.Deleted = (refl, tt)
report_plain report.ExposeError = (refl, tt)
report_plain (report.Full rows) = (refl, (decimal_plain rows, tt))
report_plain (report.Undecided last) = (refl, (decimal_plain last, tt))

bound_plain : (within : Bool) → IsPlain (bound_word within)
bound_plain true = refl
bound_plain false = refl

cause_plain : (c : Cause) → IsPlain (cause_word c)
cause_plain cause.Word = refl
cause_plain cause.Fields = refl
cause_plain cause.NoBegin = refl
cause_plain cause.SecondBegin = refl
cause_plain cause.Number = refl
cause_plain cause.Range = refl
cause_plain cause.Hex = refl
cause_plain cause.TooMany = refl
cause_plain cause.Double = refl
cause_plain cause.TooFew = refl

quantity_plain : (q : Quantity) → IsPlain (quantity_word q)
quantity_plain Events = refl
quantity_plain Messages = refl
quantity_plain Answers = refl
quantity_plain Replicas = refl
quantity_plain States = refl
quantity_plain Clients = refl

pub form_plain : (f : Form) → ArePlain (form_fields f)
form_plain (EventForm number what) = (refl, (decimal_plain number, record_plain what))
form_plain (RefusedForm r) = (refl, refusal_plain r)
form_plain (RefusedByGroup r) = (refl, group_plain r)
form_plain (LeadForm r term) = (refl, (decimal_plain r, (decimal_plain term, tt)))
form_plain (MembersForm r index margin voters) = (refl, (decimal_plain r, (decimal_plain index, (decimal_plain margin, decimals_plain voters))))
form_plain (HaltForm r index kept offered) = (refl, (decimal_plain r, (decimal_plain index, (hex_plain kept.0, (hex_plain offered.0, tt)))))
form_plain (TakenForm r at) = (refl, (decimal_plain r, (decimal_plain at.index, (hex_plain at.hash.0, tt))))
form_plain (CommitForm r index entry) = (refl, (decimal_plain r, (decimal_plain index, (decimal_plain entry.term, body_plain entry.body))))
form_plain (AnswerForm number r client asked what) = (refl, (decimal_plain number, (decimal_plain r, (hex_plain client.0, (decimal_plain asked, answer_plain what)))))
form_plain (SentForm number from to message) = (refl, (decimal_plain number, (decimal_plain from, (decimal_plain to, message_plain message))))
form_plain (SavedForm r k) = (refl, (decimal_plain r, (decimal_plain k, tt)))
form_plain (ClientForm client what) = (refl, (hex_plain client.0, report_plain what))
form_plain (LogForm n) = (refl, (decimal_plain n, tt))
form_plain (RollbacksForm within) = (refl, (bound_plain within, tt))
form_plain (EndForm events messages answers) = (refl, (decimal_plain events, (decimal_plain messages, (decimal_plain answers, tt))))
form_plain (StoppedAtRecord number f) = (refl, (refl, (decimal_plain number, (cause_plain f.cause, (decimal_plain f.field, tt)))))
form_plain (StoppedAtLimit which) = (refl, (refl, (quantity_plain which, tt)))
form_plain StoppedAtFrame = (refl, (refl, tt))
