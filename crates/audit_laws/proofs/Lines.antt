-- The lines of what came of an event are fine.
use Rattle.std.proofs.Common.{◌≡◌, ℕ, ◌+◌, ◌*◌, ◌≤◌, ◌&&◌, Bool, true, false, Option, Some, None, List, [], ◌∷◌, length, map, refl, arith}
use Rattle.std.specs.Prelude.{◌==◌, is_none, IsTrue, IfSome, decimal, nat_le}
use Rattle.std.specs.List.{AllByRecursion, list_all, join_with_byte, enumerate_from}
use Rattle.std.proofs.lemmas.Bool.{and_from, and_parts, le-leb, leb-true, eqb-true}
use Rattle.std.proofs.lemmas.Fmt.{length-decimal-le}
use Rattle.std.proofs.lemmas.List.{length-append}
use Rattle.hex.specs.Hex.{encode_with}
use Rattle.group_quorum.specs.Conf.{Conf}
use Rattle.group_quorum.specs.Voters.{fault_of}
use Rattle.values.specs.declared.batch.Batch.{Batch}
use Rattle.values.specs.declared.batch.Refusal.{Refusal}
use Rattle.values.specs.declared.batch.Refusal.TheVariants as refusal
use Rattle.values.specs.declared.entry.Body.{Body}
use Rattle.values.specs.declared.entry.Body.TheVariants as body
use Rattle.values.specs.declared.entry.Hash.{Hash}
use Rattle.values.specs.declared.entry.LogEntry.{LogEntry}
use Rattle.values.specs.declared.entry.Point.{Point}
use Rattle.values.specs.declared.event.Cause.{Cause}
use Rattle.values.specs.declared.event.Cause.TheVariants as cause
use Rattle.values.specs.declared.ids.ClientId.{ClientId}
use Rattle.values.specs.declared.message.Answer.{Answer}
use Rattle.values.specs.declared.message.Answer.TheVariants as answer
use Rattle.values.specs.declared.message.Part.{Part}
use Rattle.values.specs.declared.message.Part.TheVariants as part
use Rattle.values.specs.declared.message.Reply.{Reply}
use Rattle.values.specs.declared.message.Reply.TheVariants as reply
use Rattle.values.specs.declared.peer.PeerMsg.{PeerMsg}
use Rattle.values.specs.declared.peer.PeerMsg.TheVariants as peer
use Rattle.values.specs.declared.want.Report.{Report}
use Rattle.values.specs.declared.want.Report.TheVariants as report
use Rattle.values.specs.declared.limits.TheConstants.{TOP}
use Rattle.client_msgs.specs.Canonical.{canonical_response}
use Rattle.schedule_model.specs.Lines.{Line, hex, refusal_fields, group_refusal_fields, part_word, body_fields, reply_fields, answer_fields, bit, message_fields, report_fields, bound_word, cause_word}
use Rattle.schedule_model.specs.Refusals.{GroupRefusal, NoMessage, Lost, NotRunning, AlreadyStarted, NoSuchState, ClientBusy, WrongSize, NumbersOut, NothingInFlight, NoAnswer, NotYours}
use Rattle.schedule_model.specs.Reading.{RecordFault, max_u32, max_u64}
use Rattle.replica_model.specs.Replica.{Named}
use Rattle.trace_model.specs.TraceLines.{Form, LeadForm, TakenForm, SavedForm, RefusedForm, RefusedByGroup, ClientForm, LogForm, RollbacksForm, EndForm, StoppedAtRecord, form_fields, joined, max_line, InRange, is_index, is_hash, is_byte, is_rising, is_u64, is_u32, is_client_id, is_message, is_answer, is_reply, is_report, refusal_numbers, group_refusal_numbers, IsBody}
use Rattle.log_laws.proofs.Ending.{all-append}
use Rattle.audit_laws.proofs.Texts.{IsFine}
use Rattle.range_laws.proofs.Written.{canonical_short, response_short}
use Rattle.audit_laws.proofs.Batches.{item_forms, member_form, halt_form, commit_form, answer_form, sent_form, batch_forms}
use Rattle.range_laws.proofs.Bounds.{conf_few}
use Rattle.range_laws.proofs.Worlds.{ReportIn, CameIn, PrintedIn}
use Rattle.range_laws.proofs.Rules.{u64_of, id_low}
use Rattle.audit_laws.proofs.Stepping.{came_forms}
use Rattle.group_model.specs.Happens.{Came, Refused, Replied, Reported, Passed}
use Rattle.group_model.specs.Run.{World}
use Rattle.range_laws.specs.Ranges.{IsId, AreIds, ConfIn, BodyIn, EntryIn, ApartIn, MsgIn, ReplyIn, AnswerIn, AnsweredIn, BatchIn}

both : {a b : Bool} → IsTrue a → IsTrue b → IsTrue (a && b)
both {a} {b} x y = and_from a b x y

pub id_u64 : (v : ℕ) → IsId v → IsTrue (is_u64 v)
id_u64 v id = u64_of v (omega (arith, id_low v id))

-- ---- how long a line is
abbrev pub size : Line → ℕ
size [] = 0
size (x ∷ xs) = length x + 1 + size xs

joined_size : (fields : Line) → length (join_with_byte 44 fields) ≤ size fields
joined_size [] = omega arith
joined_size (x ∷ []) = omega arith
joined_size (x ∷ (y ∷ fields)) = omega (arith, length-append x (44 ∷ join_with_byte 44 (y ∷ fields)), joined_size (y ∷ fields))

pub decimal_size : (n : ℕ) → IsTrue (is_u64 n) → length (decimal n) ≤ 20
decimal_size n h = length-decimal-le 20 n (omega arith) (omega (arith, leb-true n max_u64 h)) (omega (arith, leb-true n max_u64 h))

pub hex_size : (bytes : List ℕ) → length (hex bytes) ≡ 2 * length bytes
unfolding encode_with
hex_size [] = refl
hex_size (b ∷ bytes) = omega (arith, hex_size bytes)

pub fine_of : (f : Form) → size (form_fields f) ≤ max_line → InRange f → IsFine f
fine_of f le h = record { short = le-leb (length (joined (form_fields f))) max_line (omega (arith, joined_size (form_fields f), le)); in_range = h }

pub ids_size : (vs : List ℕ) → AreIds vs → size (map decimal vs) ≤ 21 * length vs
ids_size [] h = omega arith
ids_size (v ∷ vs) h = omega (arith, decimal_size v (id_u64 v h.0), ids_size vs h.1)

pub hash_size : (h : Hash) → IsTrue (is_hash h) → length (hex h.0) ≡ 64
hash_size h fine = let long = eqb-true (length h.0) 32 (and_parts (length h.0 == 32) (list_all is_byte h.0) fine).0 in omega (arith, hex_size h.0, long)

pub client_size : (c : ClientId) → IsTrue (is_client_id c) → length (hex c.0) ≡ 32
client_size c fine = let long = eqb-true (length c.0) 16 (and_parts (length c.0 == 16) (list_all is_byte c.0) fine).0 in omega (arith, hex_size c.0, long)

part_size : (p : Part) → length (part_word p) ≤ 10
part_size part.Nothing = omega arith
part_size part.Secret = omega arith
part_size part.Pin = omega arith
part_size part.Tries = omega arith

-- numbers, one by one
first_u64 : (n : ℕ) (ns : List ℕ) → IsTrue (list_all is_u64 (n ∷ ns)) → IsTrue (is_u64 n)
first_u64 n ns h = (and_parts (is_u64 n) (list_all is_u64 ns) h).0

second_u64 : (n k : ℕ) (ns : List ℕ) → IsTrue (list_all is_u64 (n ∷ k ∷ ns)) → IsTrue (is_u64 k)
second_u64 n k ns h = first_u64 k ns (and_parts (is_u64 n) (list_all is_u64 (k ∷ ns)) h).1

-- ---- refusals
refusal_size : (r : Refusal) → IsTrue (list_all is_u64 (refusal_numbers r)) → size (refusal_fields r) ≤ 1000
refusal_size (refusal.NotLeader n) h = omega (arith, decimal_size n (first_u64 n [] h))
refusal_size (refusal.ChangePending n k) h = omega (arith, decimal_size n (first_u64 n (k ∷ []) h), decimal_size k (second_u64 n k [] h))
refusal_size (refusal.AlreadyVoter n) h = omega (arith, decimal_size n (first_u64 n [] h))
refusal_size (refusal.NotVoter n) h = omega (arith, decimal_size n (first_u64 n [] h))
refusal_size (refusal.TooFew n) h = omega (arith, decimal_size n (first_u64 n [] h))
refusal_size (refusal.TooMany n) h = omega (arith, decimal_size n (first_u64 n [] h))
refusal_size (refusal.NotCaughtUp n k) h = omega (arith, decimal_size n (first_u64 n (k ∷ []) h), decimal_size k (second_u64 n k [] h))
refusal_size (refusal.NoLink n) h = omega (arith, decimal_size n (first_u64 n [] h))
refusal_size (refusal.LogFull n) h = omega (arith, decimal_size n (first_u64 n [] h))
refusal_size (refusal.NoState n) h = omega (arith, decimal_size n (first_u64 n [] h))
refusal_size (refusal.NotForMe n) h = omega (arith, decimal_size n (first_u64 n [] h))
refusal_size (refusal.BadPeer n) h = omega (arith, decimal_size n (first_u64 n [] h))
refusal_size (refusal.SameMargin n) h = omega (arith, decimal_size n (first_u64 n [] h))

group_size : (r : GroupRefusal) → IsTrue (list_all is_u64 (group_refusal_numbers r)) → size (group_refusal_fields r) ≤ 1000
group_size (NoMessage n) h = omega (arith, decimal_size n (first_u64 n [] h))
group_size (Lost n) h = omega (arith, decimal_size n (first_u64 n [] h))
group_size (NotRunning n) h = omega (arith, decimal_size n (first_u64 n [] h))
group_size (AlreadyStarted n) h = omega (arith, decimal_size n (first_u64 n [] h))
group_size (NoSuchState n) h = omega (arith, decimal_size n (first_u64 n [] h))
group_size ClientBusy h = omega arith
group_size (WrongSize p n) h = omega (arith, part_size p, decimal_size n (first_u64 n [] h))
group_size (NumbersOut n) h = omega (arith, decimal_size n (first_u64 n [] h))
group_size NothingInFlight h = omega arith
group_size (NoAnswer n) h = omega (arith, decimal_size n (first_u64 n [] h))
group_size (NotYours n) h = omega (arith, decimal_size n (first_u64 n [] h))

pub refused_fine : (r : GroupRefusal) → IsTrue (list_all is_u64 (group_refusal_numbers r)) → IsFine (RefusedByGroup r)
refused_fine r h = fine_of (RefusedByGroup r) (omega (arith, group_size r h)) h

-- ---- reports
u32_test : (n : ℕ) → n ≤ max_u32 → IsTrue (is_u32 n)
u32_test n le = le-leb n max_u32 le

pub u64_test : (n : ℕ) → n ≤ max_u64 → IsTrue (is_u64 n)
u64_test n le = le-leb n max_u64 le

report_in : (r : Report) → ReportIn r → IsTrue (is_report r)
report_in report.Stored h = refl
report_in (report.Recovered secret left) h = both h.0 (u32_test left h.2)
report_in (report.WrongPin left) h = u32_test left h
report_in report.Missing h = refl
report_in report.Deleted h = refl
report_in report.ExposeError h = refl
report_in (report.Full rows) h = u32_test rows h
report_in (report.Undecided last) h = u64_test last h

report_size : (r : Report) → ReportIn r → size (report_fields r) ≤ 1000
report_size report.Stored h = omega arith
report_size (report.Recovered secret left) h = omega (arith, hex_size secret, h.1, decimal_size left (u64_test left (omega (arith, h.2))))
report_size (report.WrongPin left) h = omega (arith, decimal_size left (u64_test left (omega (arith, h))))
report_size report.Missing h = omega arith
report_size report.Deleted h = omega arith
report_size report.ExposeError h = omega arith
report_size (report.Full rows) h = omega (arith, decimal_size rows (u64_test rows (omega (arith, h))))
report_size (report.Undecided last) h = omega (arith, decimal_size last (u64_test last h))

pub report_fine : (c : ClientId) (r : Report) → IsTrue (is_client_id c) → ReportIn r → IsFine (ClientForm c r)
report_fine c r id h = fine_of (ClientForm c r) (omega (arith, client_size c id, report_size r h)) (both id (report_in r h))

-- ---- replies and answers
reply_ok : (r : Reply) → ReplyIn r → IsTrue (is_reply r)
reply_ok (reply.Applied what) h = h.0
reply_ok (reply.Stale last) h = h
reply_ok (reply.TableFull rows) h = u32_test rows h

reply_size : (r : Reply) → ReplyIn r → size (reply_fields r) ≤ 1000
reply_size (reply.Applied what) h = omega (arith, hex_size (canonical_response what), response_short what h.1)
reply_size (reply.Stale last) h = omega (arith, decimal_size last h)
reply_size (reply.TableFull rows) h = omega (arith, decimal_size rows (u64_test rows (omega (arith, h))))

module _ (m : ℕ) (small : m ≤ 2000000) where
  ux : (n : ℕ) → n ≤ m → IsTrue (is_u64 n)
  ux n le = u64_of n (omega (arith, le, small))

  ix : (n : ℕ) → n ≤ m → IsTrue (is_index n)
  ix n le = le-leb n TOP (omega (arith, le, small))

  dx : (n : ℕ) → n ≤ m → length (decimal n) ≤ 20
  dx n le = decimal_size n (ux n le)

  answer_ok : (a : Answer) → AnswerIn m a → IsTrue (is_answer a)
  answer_ok (answer.Outcome index what) h = both (ix index h.0) (reply_ok what h.1)
  answer_ok (answer.NotLeader id) h = le-leb id 65535 h
  answer_ok (answer.Busy waiting) h = ux waiting h
  answer_ok (answer.Undecided at kept offered) h = both (ix at h.index) (both h.kept h.offered)
  answer_ok (answer.Malformed offset) h = h
  answer_ok (answer.Invalid p n) h = h
  answer_ok (answer.Halted index) h = ix index h

  answer_size : (a : Answer) → AnswerIn m a → size (answer_fields a) ≤ 2000
  answer_size (answer.Outcome index what) h = omega (arith, dx index h.0, reply_size what h.1)
  answer_size (answer.NotLeader id) h = omega (arith, decimal_size id (u64_test id (omega (arith, h))))
  answer_size (answer.Busy waiting) h = omega (arith, dx waiting h)
  answer_size (answer.Undecided at kept offered) h = omega (arith, dx at h.index, hash_size kept h.kept, hash_size offered h.offered)
  answer_size (answer.Malformed offset) h = omega (arith, decimal_size offset h)
  answer_size (answer.Invalid p n) h = omega (arith, part_size p, decimal_size n h)
  answer_size (answer.Halted index) h = omega (arith, dx index h)

  body_ok : (b : Body) → BodyIn b → IsBody b
  body_ok body.Noop h = tt
  body_ok (body.Ask client number request) h = h
  body_ok (body.Members margin voters) h = h.sound

  margin_low : (c : Conf) → ConfIn c → length (decimal c.margin) ≤ 20
  margin_low c h = decimal_size c.margin (u64_test c.margin (omega (arith, leb-true c.margin 15 (and_parts (nat_le c.margin 15) (nat_le 1 (length c.voters) && (is_rising c.voters && is_none (fault_of c.margin c.voters))) h.sound).0)))

  body_size : (b : Body) → BodyIn b → size (body_fields b) ≤ 100000
  body_size body.Noop h = omega arith
  body_size (body.Ask client number request) h =
      let parts = and_parts (is_client_id client) (is_u64 number && list_all is_byte request) h.0 in
      omega (arith, client_size client parts.0, decimal_size number (and_parts (is_u64 number) (list_all is_byte request) parts.1).0, hex_size request, canonical_short request h.1)
  body_size (body.Members margin voters) h = omega (arith, margin_low (record { margin = margin; voters = voters }) h, ids_size voters h.ids, (conf_few (record { margin = margin; voters = voters }) h).1)

  message_ok : (names : Named) (x : PeerMsg) → MsgIn m names x → IsTrue (is_message x)
  message_ok names (peer.AskVote term last_index last_term) h = both (ix term h.0) (both (ix last_index h.1) (ix last_term h.2))
  message_ok names (peer.Vote term granted) h = ix term h
  message_ok names (peer.Append term prev entries promise commit) h = both (ix term h.0) (both (ix prev.index (omega (arith, h.1.ends))) (both (ux (length entries) (omega (arith, h.1.ends))) (both (ix promise h.1.promised) (ix commit h.1.committed))))
  message_ok names (peer.Accepted term end promised) h = both (ix term h.0) (both (ix end.index h.1) (ix promised h.2))
  message_ok names (peer.Rejected term asked hint) h = both (ix term h.0) (both (ix asked h.1) (ix hint h.2))
  message_ok names (peer.Part term p) h = both (ix term h.0) (both (ix p.point.index h.1) (both (u64_of p.part (omega (arith, h.2))) (both (u64_of p.parts (omega (arith, h.3))) (u32_test (length p.rows) (omega (arith, h.4))))))
  message_ok names (peer.PartTaken term at next) h = both (ix term h.0) (both (ix at.index h.1) h.2)

  bit_size : (granted : Bool) → length (decimal (bit granted)) ≤ 20
  bit_size true = decimal_size 1 refl
  bit_size false = decimal_size 0 refl

  message_size : (names : Named) (x : PeerMsg) → MsgIn m names x → size (message_fields x) ≤ 1000
  message_size names (peer.AskVote term last_index last_term) h = omega (arith, dx term h.0, dx last_index h.1, dx last_term h.2)
  message_size names (peer.Vote term granted) h = omega (arith, dx term h, bit_size granted)
  message_size names (peer.Append term prev entries promise commit) h = omega (arith, dx term h.0, dx prev.index (omega (arith, h.1.ends)), dx (length entries) (omega (arith, h.1.ends)), dx promise h.1.promised, dx commit h.1.committed)
  message_size names (peer.Accepted term end promised) h = omega (arith, dx term h.0, dx end.index h.1, dx promised h.2)
  message_size names (peer.Rejected term asked hint) h = omega (arith, dx term h.0, dx asked h.1, dx hint h.2)
  message_size names (peer.Part term p) h = omega (arith, dx term h.0, dx p.point.index h.1, decimal_size p.part (u64_of p.part (omega (arith, h.2))), decimal_size p.parts (u64_of p.parts (omega (arith, h.3))), decimal_size (length p.rows) (u64_of (length p.rows) (omega (arith, h.4))))
  message_size names (peer.PartTaken term at next) h = omega (arith, dx term h.0, dx at.index h.1, decimal_size next h.2)

  -- ---- the lines of a batch
  module _ (r : ℕ) (id : IsId r) where
    rx : length (decimal r) ≤ 20
    rx = decimal_size r (id_u64 r id)

    items_fine : {A : Type 0} (form : A → Form) (P : A → Type 0) → ((x : A) → P x → IsFine (form x)) → (o : Option A) → IfSome o P → AllByRecursion IsFine (item_forms form o)
    items_fine form P each None h = tt
    items_fine form P each (Some x) h = (each x h, tt)

    maps_fine : {A : Type 0} (form : A → Form) (P : A → Type 0) → ((x : A) → P x → IsFine (form x)) → (xs : List A) → AllByRecursion P xs → AllByRecursion IsFine (map form xs)
    maps_fine form P each [] h = tt
    maps_fine form P each (x ∷ xs) h = (each x h.0, maps_fine form P each xs h.1)

    answers_fine : (k : ℕ) (given : List (ClientId × ℕ × Answer)) → k + length given ≤ 4000000 → AllByRecursion (AnsweredIn m) given → AllByRecursion IsFine (map (answer_form r) (enumerate_from k given))
    answers_fine k [] few h = tt
    answers_fine k (a ∷ given) few h =
        let who = and_parts (is_client_id a.0) (is_u64 a.1) h.0.0 in
        let number = le-leb k max_u64 (omega (arith, few)) in (
          fine_of (answer_form r (k, a)) (omega (arith, decimal_size k number, rx, client_size a.0 who.0, decimal_size a.1 who.1, answer_size a.2 h.0.1))
              (both number (both id (both who.0 (both who.1 (answer_ok a.2 h.0.1))))),
          answers_fine (k + 1) given (omega (arith, few)) h.1,
        )

    sent_fine : (k : ℕ) (ms : List (ℕ × PeerMsg)) → k + length ms ≤ 2000000 → PrintedIn m ms → AllByRecursion IsFine (map (sent_form r) (enumerate_from k ms))
    sent_fine k [] few h = tt
    sent_fine k (x ∷ ms) few h =
        let number = u64_of k (omega (arith, few)) in (
          fine_of (sent_form r (k, x)) (omega (arith, decimal_size k number, rx, decimal_size x.0 (id_u64 x.0 h.0.0), message_size h.0.1.0 x.1 h.0.1.1)) (both number (both id (both h.0.0 (message_ok h.0.1.0 x.1 h.0.1.1)))),
          sent_fine (k + 1) ms (omega (arith, few)) h.1,
        )

    pub batch_fine : (first_message first_answer : ℕ) (b : Batch) → first_message + length b.sent ≤ 2000000 → first_answer + length b.answers ≤ 4000000 → BatchIn m b → PrintedIn m b.sent → AllByRecursion IsFine (batch_forms r first_message first_answer b)
    batch_fine first_message first_answer b messages answers h printed =
        all-append IsFine (item_forms (LeadForm r) b.lead) _ (items_fine (LeadForm r) (λ t. t ≤ m) (λ t x. fine_of (LeadForm r t) (omega (arith, rx, dx t x)) (both id (ix t x))) b.lead h.lead)
        (all-append IsFine (map (member_form r) b.members) _ (maps_fine (member_form r) (λ (c : ℕ × ℕ × List ℕ). (c.0 ≤ m) × ConfIn (record { margin = c.1; voters = c.2 }))
        (λ c x. fine_of (member_form r c) (omega (arith, rx, dx c.0 x.0, margin_low (record { margin = c.1; voters = c.2 }) x.1, ids_size c.2 x.1.ids, (conf_few (record { margin = c.1; voters = c.2 }) x.1).1)) (both id (both (ix c.0 x.0) x.1.sound))) b.members h.members)
        (all-append IsFine (item_forms (halt_form r) b.halt) _ (items_fine (halt_form r) (ApartIn m) (λ d x. fine_of (halt_form r d) (omega (arith, rx, dx d.0 x.index, hash_size d.1 x.kept, hash_size d.2 x.offered)) (both id (both (ix d.0 x.index) (both x.kept x.offered)))) b.halt h.halt)
        (all-append IsFine (item_forms (TakenForm r) b.taken) _ (items_fine (TakenForm r) (λ (p : Point). (p.index ≤ m) × IsTrue (is_hash p.hash)) (λ p x. fine_of (TakenForm r p) (omega (arith, rx, dx p.index x.0, hash_size p.hash x.1)) (both id (both (ix p.index x.0) x.1))) b.taken h.taken)
        (all-append IsFine (map (commit_form r) b.commits) _ (maps_fine (commit_form r) (λ (c : ℕ × LogEntry). (c.0 ≤ m) × EntryIn m c.1)
        (λ c x. fine_of (commit_form r c) (omega (arith, rx, dx c.0 x.0, dx c.1.term x.1.0, body_size c.1.body x.1.1)) (both id (both (ix c.0 x.0) (ix c.1.term x.1.0)), body_ok c.1.body x.1.1)) b.commits h.commits)
        (all-append IsFine (map (answer_form r) (enumerate_from first_answer b.answers)) _ (answers_fine first_answer b.answers answers h.answers)
        (all-append IsFine (map (sent_form r) (enumerate_from first_message b.sent)) _ (sent_fine first_message b.sent messages printed)
        (all-append IsFine (item_forms (SavedForm r) b.saved) _ (items_fine (SavedForm r) (λ k. IsTrue (is_u64 k)) (λ k x. fine_of (SavedForm r k) (omega (arith, rx, decimal_size k x)) (both id x)) b.saved h.saved)
        (items_fine RefusedForm (λ (r : Refusal). IsTrue (list_all is_u64 (refusal_numbers r))) (λ q x. fine_of (RefusedForm q) (omega (arith, refusal_size q x)) x) b.refused h.refused))))))))

  pub came_fine : (first_message first_answer : ℕ) (h : World) (came : Came) (Short : Type 0) → Short → CameIn Short m h came → first_message + length h.messages ≤ 2000000 → first_answer + length h.answers ≤ 4000000 → AllByRecursion IsFine (came_forms first_message first_answer came)
  came_fine first_message first_answer h (Refused r) Short short x messages answers = (refused_fine r (x short), tt)
  came_fine first_message first_answer h (Replied v b) Short short x messages answers = batch_fine v x.0 first_message first_answer b (omega (arith, x.3, messages)) (omega (arith, x.4, answers)) x.1 x.2
  came_fine first_message first_answer h (Reported c r) Short short x messages answers = (report_fine c r x.0 x.1, tt)
  came_fine first_message first_answer h Passed Short short x messages answers = tt

-- ---- the ends
cause_size : (c : Cause) → length (cause_word c) ≤ 20
cause_size cause.Word = omega arith
cause_size cause.Fields = omega arith
cause_size cause.NoBegin = omega arith
cause_size cause.SecondBegin = omega arith
cause_size cause.Number = omega arith
cause_size cause.Range = omega arith
cause_size cause.Hex = omega arith
cause_size cause.TooMany = omega arith
cause_size cause.Double = omega arith
cause_size cause.TooFew = omega arith

pub stopped_fine : (number : ℕ) (f : RecordFault) → IsTrue (is_u64 number) → IsTrue (is_u64 f.field) → IsFine (StoppedAtRecord number f)
stopped_fine number f a b = fine_of (StoppedAtRecord number f) (omega (arith, decimal_size number a, decimal_size f.field b, cause_size f.cause)) (both a b)

word_size : (within : Bool) → length (bound_word within) ≤ 20
word_size true = omega arith
word_size false = omega arith

pub ends_fine : (log : ℕ) (within : Bool) (x y z : ℕ) → log ≤ 2000000 → x ≤ 2000000 → y ≤ 2000000 → z ≤ 2000000 → AllByRecursion IsFine (LogForm log ∷ RollbacksForm within ∷ EndForm x y z ∷ [])
ends_fine log within x y z a b c d =
    let l = u64_of log (omega (arith, a)) in
    let p = u64_of x (omega (arith, b)) in
    let q = u64_of y (omega (arith, c)) in
    let r = u64_of z (omega (arith, d)) in
    (fine_of (LogForm log) (omega (arith, decimal_size log l)) l, (fine_of (RollbacksForm within) (omega (arith, word_size within)) tt, (fine_of (EndForm x y z) (omega (arith, decimal_size x p, decimal_size y q, decimal_size z r)) (both p (both q r)), tt)))
