-- What a run holds stays in range, event by event.
use Rattle.std.proofs.Common.{◌≡◌, ℕ, ◌+◌, ◌-◌, ◌*◌, ◌≤◌, ◌==◌, ◌&&◌, Bool, true, false, cond, inl, inr, Option, Some, None, Result, Ok, Err, List, [], ◌∷◌, length, map, refl, sym, ap, subst, arith}
use Rattle.std.specs.Prelude.{IsTrue, IfSome, IfOk, nat_le, nat_lt}
use Rattle.std.specs.List.{AllByRecursion, list_all}
use Rattle.std.proofs.lemmas.Bool.{cond_both, le-leb, leb-true, ltb-false, eqb-true, and_parts, and_from}
use Rattle.std.proofs.lemmas.List.{length-append}
use Rattle.values.specs.declared.limits.TheConstants.{MAX_EVENTS}
use Rattle.values.specs.declared.batch.Refusal.TheVariants.{NoLink, NoState, NotForMe}
use Rattle.values.specs.declared.entry.Hash.{Hash}
use Rattle.values.specs.declared.event.Event.{Event}
use Rattle.values.specs.declared.event.Event.TheVariants as event
use Rattle.values.specs.declared.ids.ClientId.{ClientId}
use Rattle.values.specs.declared.message.Answer.{Answer}
use Rattle.values.specs.declared.peer.PeerMsg.{PeerMsg}
use Rattle.values.specs.declared.want.Report.{Report}
use Rattle.values.specs.declared.want.Report.TheVariants as report
use Rattle.values.specs.declared.want.Want.{Want}
use Rattle.values.specs.declared.want.Want.TheVariants as want
use Rattle.values.specs.declared.want.WantFault.{WantFault}
use Rattle.client_msgs.specs.Canonical.{canonical_request}
use Rattle.values.specs.Sizes.{IsValid}
use Rattle.values.specs.declared.message.Request.{Request}
use Rattle.client_msgs.proofs.RoundTrip.{request_of-canonical}
use Rattle.range_laws.proofs.Handed.{handed_in as what_is_handed}
use Rattle.range_laws.proofs.Written.{PartsIn, request_body}
use Rattle.client_msgs.specs.Reading.{request_of}
use Rattle.client_msgs.specs.Sizes.{FitsRequest, size_fault, outside, secret_fault, pin_fault, tries_fault}
use Rattle.client_msgs.proofs.SizesLemmas.{size_fault-valid}
use Rattle.std.specs.Option.{option_or}
use Rattle.values.specs.declared.message.Part.{Part}
use Rattle.values.specs.declared.message.Reply.{Reply}
use Rattle.values.specs.declared.message.Reply.TheVariants as reply
use Rattle.values.specs.declared.message.Response.{Response}
use Rattle.values.specs.declared.message.Response.TheVariants as response
use Rattle.values.specs.declared.message.Answer.TheVariants as answer
use Rattle.schedule_model.specs.Client.{Flight, Core, first_request, wanted, heard, flight_request}
use Rattle.schedule_model.specs.Client as client
use Rattle.schedule_model.specs.Reading.{max_u32, max_u64}
use Rattle.replica_model.specs.Path.{Link}
use Rattle.replica_model.specs.Keyed.{value_at}
use Rattle.replica_model.specs.Message.{Message}
use Rattle.replica_model.specs.Replica.{Named, Replica}
use Rattle.replica_model.specs.Call.{Call, still}
use Rattle.replica_model.specs.Call as step
use Rattle.replica_model.specs.Step.{step as step_of}
use Rattle.group_model.specs.Enclave.{HostInput, Peer, Client, Join, Admit, Remove, Roll, Margin, Enclave, Called, called}
use Rattle.group_model.specs.Group.{Sent, Answered}
use Rattle.group_model.specs.Happens as happening
use Rattle.group_model.specs.Happens.{Came, Refused, Replied, Reported, Passed, Happening, Happened, Broken, Unanswered}
use Rattle.group_model.specs.Run.{Enclaves, World, moves, enclaves}
use Rattle.trace_model.specs.TraceLines.{is_byte, is_hash, is_response, is_u32, is_u64, is_client_id, refusal_numbers, group_refusal_numbers}
use Rattle.trace_model.specs.Hashing.{GivesHashes}
use Rattle.log_laws.proofs.History.{all_more}
use Rattle.log_laws.proofs.Standing.{Throughout, throughout_more, called_throughout, goes_on}
use Rattle.event_walk.specs.Enclosed.{Idle, Links, Saves, Full, NotMine, NotLinked, NotThere, idle_input, idle_call, Handed, Enclosed}
use Rattle.event_walk.proofs.Enclosed.{call_keeps}
use Rattle.log_laws.proofs.Moving.{all_get}
use Rattle.range_laws.proofs.Bounds.{call_later, answer_later, state_later, message_later, still_in}
use Rattle.range_laws.proofs.Rules.{u64_of, id_low, refusing}
use Rattle.range_laws.proofs.Hearing.{RequestIn, one_number}
use Rattle.range_laws.proofs.Stepping.{InputIn, step_in}
use Rattle.range_laws.specs.Laws.{RecordedIn}
use Rattle.range_laws.specs.Ranges.{AnswerIn, AnsweredIn, AreBytes, AreIds, BatchIn, CallIn, FirstIn, IsId, MessageIn, MsgIn, ReplyIn, ResponseIn, SentIn, StateIn, WantIn}

-- ---- clients
pub record FlightIn (last : ℕ) (f : Flight) : Type 0 where
  pub want_in : WantIn f.want
  pub sized : size_fault (first_request f.want) ≡ None
  pub number : f.number ≤ max_u64
  -- a store's second number is there
  pub room : f.exposes ≡ false → last + client.numbers_needed f.want ≤ max_u64 + 1

pub record CoreIn (core : Core) : Type 0 where
  pub last : core.last ≤ max_u64
  pub flight : IfSome core.flight (FlightIn core.last)

abbrev pub ReportIn : Report → Type 0
ReportIn (report.Recovered secret left) = AreBytes secret × (length secret ≤ 48) × (left ≤ max_u32)
ReportIn (report.WrongPin left) = left ≤ max_u32
ReportIn (report.Full rows) = rows ≤ max_u32
ReportIn (report.Undecided last) = last ≤ max_u64
ReportIn other = Unit {0}

-- ---- a world in range, of so many events
abbrev pub ReplicaIn : ℕ → Replica → Type 0
ReplicaIn n s = StateIn n s × FirstIn s.role s.first

pub record EnclaveIn (n : ℕ) (e : Enclave) : Type 0 where
  pub states : Throughout (ReplicaIn n) e
  pub few : length e.saved ≤ n + 1

abbrev pub MailIn : ℕ → Sent Message → Type 0
MailIn n m = IsId m.from × IsId m.to × MessageIn n m.message

abbrev pub GivenIn : ℕ → Answered → Type 0
GivenIn n a = IsId a.replica × AnsweredIn n (a.client, a.number, a.answer)

abbrev pub ClientIn : ClientId × Core → Type 0
ClientIn x = IsTrue (is_client_id x.0) × CoreIn x.1

-- who runs, and every call that was ever made
pub record FieldIn (n : ℕ) (f : Enclaves) : Type 0 where
  pub running : (v : ℕ) (e : Enclave) → value_at f.running v ≡ Some e → EnclaveIn n e
  pub history : AllByRecursion (RecordedIn n) f.history

pub record WorldIn (n : ℕ) (w : World) : Type 0 where
  pub field : FieldIn n w.field
  pub mail : AllByRecursion (MailIn n) w.messages
  pub answers : AllByRecursion (GivenIn n) w.answers
  pub cores : AllByRecursion ClientIn w.cores
  pub running : AreIds w.running
  pub waiting : AllByRecursion (λ k. (1 ≤ k) × (k ≤ length w.messages)) w.waiting
  pub committed : w.committed ≤ n

-- messages as they are printed
abbrev pub PrintedIn : ℕ → List (ℕ × PeerMsg) → Type 0
PrintedIn n sent = AllByRecursion (λ (m : ℕ × PeerMsg). IsId m.0 × ((names : Named) × MsgIn n names m.1)) sent

pub printed_in : (n : ℕ) (sent : List (ℕ × Message)) → AllByRecursion (SentIn n) sent → PrintedIn n (map (λ m. (m.0, m.1.msg)) sent)
printed_in n [] h = tt
printed_in n (m ∷ sent) h = ((h.0.0, (m.1.names, h.0.1)), printed_in n sent h.1)

as_many_sent : (sent : List (ℕ × Message)) → length {A = ℕ × PeerMsg} (map (λ (m : ℕ × Message). (m.0, m.1.msg)) sent) ≤ length sent
as_many_sent [] = omega arith
as_many_sent (m ∷ sent) = omega (arith, as_many_sent sent)

-- the digits of a secret that is stored are no more than these; a refused one tells its length
abbrev pub IsShortWant : ℕ → Want → Type 0
IsShortWant most (want.Store secret pin tries) = 2 * length secret ≤ most
IsShortWant most (want.Recover pin) = Unit {0}
IsShortWant most want.Erase = Unit {0}

abbrev pub IsShort : ℕ → Event → Type 0
IsShort most (event.Want c w) = IsShortWant most w
IsShort most e = Unit {0}

-- what came of an event is in range; the numbers of a refusal, where the event is short
abbrev pub CameIn : Type 0 → ℕ → World → Came → Type 0
CameIn Short n h (Refused r) = Short → IsTrue (list_all is_u64 (group_refusal_numbers r))
CameIn Short n h (Replied v batch) = IsId v × BatchIn n batch × PrintedIn n batch.sent × (length batch.sent ≤ length h.messages) × (length batch.answers ≤ length h.answers)
CameIn Short n h (Reported c r) = IsTrue (is_client_id c) × ReportIn r
CameIn Short n h Passed = Unit {0}

abbrev pub Stays : Type 0 → ℕ → Happening Message Enclaves → Type 0
Stays Short n (Happened came h) = WorldIn n h × CameIn Short n h came
Stays Short n (Broken at f) = Unit {0}
Stays Short n Unanswered = Unit {0}

-- ---- leaves
-- the bytes of a request that is handed over
pub handed_in : (client : ClientId) (number : ℕ) (bytes : List ℕ) → IsTrue (is_client_id client && is_u64 number) → AreBytes bytes → length bytes ≤ 65536 → RequestIn client number (request_of bytes)
handed_in client number bytes who fine short = what_is_handed client number who bytes fine short

-- and those of one in flight
pub flight_in : (client : ClientId) (last : ℕ) (f : Flight) → IsTrue (is_client_id client) → FlightIn last f → RequestIn client f.number (request_of (canonical_request (flight_request f)))
flight_in client last f who fine = by_exposes f.exposes
  where
    number : IsTrue (is_u64 f.number)
    number = le-leb f.number max_u64 fine.number

    in_request : (q : Request) → IsValid q × FitsRequest q → PartsIn q → RequestIn client f.number (request_of (canonical_request q))
    in_request q v parts = subst (RequestIn client f.number) (sym (request_of-canonical q v.0 v.1)) (request_body client f.number q (and_from (is_client_id client) (is_u64 f.number) who number) v.0 v.1 parts)

    pin_bytes : (pin : Hash) → IsTrue (is_hash pin) → AreBytes pin.0
    pin_bytes pin h = (and_parts (length pin.0 == 32) (list_all is_byte pin.0) h).1

    parts_in : (w : Want) → WantIn w → PartsIn (first_request w)
    parts_in (want.Store secret pin tries) h = (h.0, pin_bytes pin h.1)
    parts_in (want.Recover pin) h = pin_bytes pin h
    parts_in want.Erase h = tt

    second_in : (w : Want) → WantIn w → size_fault (first_request w) ≡ None → RequestIn client f.number (request_of (canonical_request (Rattle.schedule_model.specs.Client.second_request w)))
    second_in (want.Store secret pin tries) h is = let v = size_fault-valid (first_request (want.Store secret pin tries)) is in in_request (Rattle.values.specs.declared.message.Request.TheVariants.Expose secret) (v.0.0, tt) h.0
    second_in (want.Recover pin) h is = in_request (first_request (want.Recover pin)) (size_fault-valid (first_request (want.Recover pin)) is) (parts_in (want.Recover pin) h)
    second_in want.Erase h is = in_request (first_request want.Erase) (size_fault-valid (first_request want.Erase) is) tt

    by_exposes : (b : Bool) → RequestIn client f.number (request_of (canonical_request (cond b (Rattle.schedule_model.specs.Client.second_request f.want) (first_request f.want))))
    by_exposes true = second_in f.want fine.want_in fine.sized
    by_exposes false = in_request (first_request f.want) (size_fault-valid (first_request f.want) fine.sized) (parts_in f.want fine.want_in)

need_some : (w : Want) → 1 ≤ client.numbers_needed w
need_some (want.Store secret pin tries) = omega arith
need_some (want.Recover pin) = omega arith
need_some want.Erase = omega arith

-- a want that is taken up, and why one is not
abbrev WantedIn : ℕ → Want → Result Core WantFault → Type 0
WantedIn most w (Ok core) = CoreIn core
WantedIn most w (Err f) = IsShortWant most w → IsTrue (list_all is_u64 (group_refusal_numbers (happening.refusal_of (enclaves (λ h i e. h)) f)))

abbrev SizeLow : Option (Part × ℕ) → Type 0
SizeLow o = IfSome o (λ x. x.1 ≤ max_u64)

outside_low : (part : Part) (least most size : ℕ) → size ≤ max_u64 → SizeLow (outside part least most size)
outside_low part least most size le = cond_both (nat_le least size && nat_le size most) None (Some (part, size)) SizeLow (λ b. tt) (λ b. le)

either_low : (a b : Option (Part × ℕ)) → SizeLow a → SizeLow b → SizeLow (option_or a b)
either_low None b x y = y
either_low (Some p) b x y = x

hash_long : (h : Hash) → IsTrue (is_hash h) → length h.0 ≡ 32
hash_long h fine = eqb-true (length h.0) 32 (and_parts (length h.0 == 32) (list_all is_byte h.0) fine).0

pin_low : (pin : Hash) → IsTrue (is_hash pin) → SizeLow (pin_fault pin)
pin_low pin h = outside_low _ 32 32 (length pin.0) (omega (arith, hash_long pin h))

want_low : (most : ℕ) → most ≤ max_u64 → (w : Want) → WantIn w → IsShortWant most w → SizeLow (size_fault (first_request w))
want_low most fits (want.Store secret pin tries) h short = either_low (secret_fault secret) (option_or (pin_fault pin) (tries_fault tries)) (outside_low _ 16 48 (length secret) (omega (arith, short, fits))) (either_low (pin_fault pin) (tries_fault tries) (pin_low pin h.1) (outside_low _ 1 255 tries (omega (arith, h.2))))
want_low most fits (want.Recover pin) h short = pin_low pin h
want_low most fits want.Erase h short = tt

wanted_so : (most : ℕ) → most ≤ max_u64 → (core : Core) (w : Want) → CoreIn core → WantIn w → WantedIn most w (wanted core w)
wanted_so most fits core w fine read = by_flight core.flight
  where
    numbers : size_fault (first_request w) ≡ None → WantedIn most w (client.want_numbers core w)
    numbers sized = cond_both (nat_lt (max_u64 - core.last) (client.numbers_needed w)) (Err (Rattle.values.specs.declared.want.WantFault.TheVariants.NumbersOut core.last)) (Ok (client.flies core w false)) (WantedIn most w)
        (λ b short. one_number core.last (le-leb core.last max_u64 fine.last))
        (λ b.
        let room = ltb-false (max_u64 - core.last) (client.numbers_needed w) b in
        let some = need_some w in
        record { last = omega (arith, room, some, fine.last); flight = record { want_in = read; sized = sized; number = omega (arith, room, some, fine.last); room = λ is. omega (arith, room, some, fine.last) } })

    sizes : (o : Option (Part × ℕ)) → size_fault (first_request w) ≡ o → (IsShortWant most w → SizeLow o) → WantedIn most w (client.want_sizes core w o)
    sizes (Some (part, n)) is low = λ short. one_number n (le-leb n max_u64 (low short))
    sizes None is low = numbers is

    by_flight : (o : Option Flight) → WantedIn most w (client.want_in core w o)
    by_flight (Some f) = λ short. refl
    by_flight None = sizes (size_fault (first_request w)) refl (want_low most fits w read)

pub wanted_in : (c : ClientId) (core : Core) (w : Want) → CoreIn core → WantIn w → (r : Result Core WantFault) → wanted core w ≡ r → IfOk r CoreIn
wanted_in c core w fine read (Ok core') is = subst (WantedIn max_u64 w) is (wanted_so max_u64 (omega arith) core w fine read)
wanted_in c core w fine read (Err f) is = tt

pub want_fault_in : (most : ℕ) → most ≤ max_u64 → (core : Core) (w : Want) → CoreIn core → WantIn w → (f : WantFault) → wanted core w ≡ Err f → IsShortWant most w → IsTrue (list_all is_u64 (group_refusal_numbers (happening.refusal_of (enclaves (λ h i e. h)) f)))
want_fault_in most fits core w fine read f is = subst (WantedIn most w) is (wanted_so most fits core w fine read)

-- what an answer means to a flight
abbrev MeansIn : Want → Bool → client.Meaning → Type 0
MeansIn w exposes client.Nothing = Unit {0}
MeansIn w exposes client.GoesOn = (exposes ≡ false) × (client.numbers_needed w ≡ 2)
MeansIn w exposes (client.Reports r) = ReportIn r

restored_means : (w : Want) (exposes : Bool) (status : ℕ) (secret : List ℕ) (tries : ℕ) → AreBytes secret → length secret ≤ 48 → tries ≤ max_u32 → MeansIn w exposes (client.restore_meaning status secret tries)
restored_means w exposes status secret tries bytes short low =
    cond_both (status == 1) (client.Reports (report.Recovered secret tries)) _ (MeansIn w exposes) (λ b. (bytes, short, low))
    (λ b. cond_both (status == 2) (client.Reports report.Missing) _ (MeansIn w exposes) (λ b. tt)
    (λ b. cond_both (status == 3) (client.Reports (report.WrongPin tries)) client.Nothing (MeansIn w exposes) (λ b. low) (λ b. tt)))

response_means : (w : Want) (exposes : Bool) (r : Response) → IsTrue (is_response r) → ResponseIn r → MeansIn w exposes (client.response_meaning w exposes r)
response_means (want.Store secret pin tries) false (response.Backup status) h x = cond_both (status == 1) client.GoesOn client.Nothing (MeansIn (want.Store secret pin tries) false) (λ b. (refl, refl)) (λ b. tt)
response_means (want.Store secret pin tries) false (response.Restore status s t) h x = tt
response_means (want.Store secret pin tries) false response.Delete h x = tt
response_means (want.Store secret pin tries) false (response.Expose status) h x = tt
response_means (want.Store secret pin tries) true (response.Backup status) h x = tt
response_means (want.Store secret pin tries) true (response.Restore status s t) h x = tt
response_means (want.Store secret pin tries) true response.Delete h x = tt
response_means (want.Store secret pin tries) true (response.Expose status) h x =
    cond_both (status == 1) (client.Reports report.Stored) _ (MeansIn (want.Store secret pin tries) true) (λ b. tt) (λ b. cond_both (status == 2) (client.Reports report.ExposeError) client.Nothing (MeansIn (want.Store secret pin tries) true) (λ b. tt) (λ b. tt))
response_means (want.Recover pin) exposes (response.Backup status) h x = tt
response_means (want.Recover pin) exposes (response.Restore status s t) h x =
    let p = and_parts (is_u32 status) (list_all is_byte s && is_u32 t) h in
    let q = and_parts (list_all is_byte s) (is_u32 t) p.1 in
    restored_means (want.Recover pin) exposes status s t q.0 x (leb-true t max_u32 q.1)
response_means (want.Recover pin) exposes response.Delete h x = tt
response_means (want.Recover pin) exposes (response.Expose status) h x = tt
response_means want.Erase exposes (response.Backup status) h x = tt
response_means want.Erase exposes (response.Restore status s t) h x = tt
response_means want.Erase exposes response.Delete h x = tt
response_means want.Erase exposes (response.Expose status) h x = tt

reply_means : (f : Flight) (r : Reply) → ReplyIn r → MeansIn f.want f.exposes (client.reply_meaning f r)
reply_means f (reply.Applied what) h = response_means f.want f.exposes what h.0 h.1
reply_means f (reply.Stale last) h = leb-true last max_u64 h
reply_means f (reply.TableFull rows) h = h

answer_means : (n : ℕ) (f : Flight) (a : Answer) → f.number ≤ max_u64 → AnswerIn n a → MeansIn f.want f.exposes (client.answer_meaning f a)
answer_means n f (answer.Outcome index what) low h = reply_means f what h.1
answer_means n f (answer.Undecided at kept offered) low h = low
answer_means n f other low h = tt

abbrev HeardIn : Core × Option Report → Type 0
HeardIn x = CoreIn x.0 × IfSome x.1 ReportIn

last_low : (core : Core) (r : Report) → CoreIn core → ReportIn r → client.last_after core r ≤ max_u64
last_low core (report.Undecided last) fine h = omega (arith, fine.last, h)
last_low core other fine h = fine.last

heard_as_in : (core : Core) (f : Flight) (meaning : client.Meaning) → CoreIn core → FlightIn core.last f → MeansIn f.want f.exposes meaning → HeardIn (client.heard_as core f meaning)
heard_as_in core f client.Nothing fine x h = (fine, tt)
heard_as_in core f client.GoesOn fine x h =
    let room = x.room h.0 in
    (record { last = omega (arith, room, h.1); flight = record { want_in = x.want_in; sized = x.sized; number = omega (arith, room, h.1); room = λ is. absurd (let e : true ≡ false = is in cc) } }, tt)
heard_as_in core f (client.Reports r) fine x h = (record { last = last_low core r fine h; flight = tt }, h)

pub heard_in : (n : ℕ) → n ≤ MAX_EVENTS → (core : Core) (a : Answered) → CoreIn core → GivenIn n a → CoreIn (heard core a.number a.answer).0 × IfSome (heard core a.number a.answer).1 ReportIn
heard_in n small core a fine given = by_flight core.flight fine.flight
  where
    by_flight : (o : Option Flight) → IfSome o (FlightIn core.last) → HeardIn (client.hear_in core a.number a.answer o)
    by_flight None x = (fine, tt)
    by_flight (Some f) x = cond_both (a.number == f.number) (client.heard_as core f (client.answer_meaning f a.answer)) (core, None) HeardIn
        (λ b. heard_as_in core f (client.answer_meaning f a.answer) fine x (answer_means n f a.answer x.number given.1.1))
        (λ b. (fine, tt))

-- ---- later
pub enclave_later : (n m : ℕ) → n ≤ m → (e : Enclave) → EnclaveIn n e → EnclaveIn m e
enclave_later n m le e h = record {
  states = throughout_more (ReplicaIn n) (ReplicaIn m) (λ s x. (state_later n m le s x.0, x.1)) e h.states;
  few = omega (arith, h.few, le);
}

pub world_later : (n m : ℕ) → n ≤ m → (w : World) → WorldIn n w → WorldIn m w
world_later n m le w h = record {
  field = record {
    running = λ v e is. enclave_later n m le e (h.field.running v e is);
    history = all_more (RecordedIn n) (RecordedIn m) (λ r x. record { replica = x.replica; call = call_later n m le r.call x.call }) w.field.history h.field.history;
  };
  mail = all_more (MailIn n) (MailIn m) (λ x y. (y.0, y.1, message_later n m le x.message.names x.message.msg y.2)) w.messages h.mail;
  answers = all_more (GivenIn n) (GivenIn m) (λ x y. (y.0, (y.1.0, answer_later n m le x.answer y.1.1))) w.answers h.answers;
  cores = h.cores;
  running = h.running;
  waiting = h.waiting;
  committed = omega (arith, h.committed, le);
}

-- ---- one call of an enclave
abbrev pub HostIn : ℕ → HostInput Message → Type 0
HostIn m (Peer from to x) = IsId from × IsId to × MessageIn m x
HostIn m (Client c number bytes) = IsTrue (is_client_id c && is_u64 number) × RequestIn c number (request_of bytes)
HostIn m (Join id) = IsId id
HostIn m (Admit id) = IsId id
HostIn m (Remove id) = IsId id
HostIn m (Roll state) = state ≤ max_u32
HostIn m (Margin margin) = margin ≤ 15
HostIn m other = Unit {0}

-- what a call left is in range, and so is what is printed of it
pub record LeftIn (m : ℕ) (c : Call) : Type 0 where
  pub call : CallIn m c
  pub printed : PrintedIn m c.batch.sent
  pub as_many : length c.batch.sent ≤ length c.sent

module _ (n : ℕ) (small : n + 1 ≤ MAX_EVENTS) (link : Link) (hashes : GivesHashes link) (e : Enclave) (old : EnclaveIn n e) where
  later : EnclaveIn (n + 1) e
  later = enclave_later n (n + 1) (omega arith) e old

  state : StateIn (n + 1) e.replica
  state = later.states.now.0

  first : FirstIn e.replica.role e.replica.first
  first = later.states.now.1

  abbrev In : step.Input → Type 0
  In told = InputIn (n + 1) small link hashes told

  -- a frame's addressee is in range too
  abbrev ToldIn : HostInput Message → step.Input → Type 0
  ToldIn (Peer from to y) told = IsId to × In told
  ToldIn other told = In told

  told_so : (input : HostInput Message) → HostIn (n + 1) input → Handed e ToldIn (λ k. k ≤ max_u32) input
  told_so (Peer from to y) x = (x.1, (x.0, x.2))
  told_so other x = x

  told_in : (input : HostInput Message) (told : step.Input) → ToldIn input told → In told
  told_in (Peer from to y) told x = x.1
  told_in other told x = x

  stepped : (x : step.Input) → In x → LeftIn (n + 1) (step_of link e.replica x)
  stepped x fine =
      let call = step_in (n + 1) small link hashes e.replica state first (omega (arith, old.states.now.0.path.long)) (omega (arith, old.states.now.0.term)) x fine in
      record { call = call; printed = printed_in (n + 1) (step_of link e.replica x).sent call.sent; as_many = as_many_sent (step_of link e.replica x).sent }

  stilled : (s : Replica) → ReplicaIn (n + 1) s → LeftIn (n + 1) (still s)
  stilled s x = record { call = still_in (n + 1) s x.0 x.1; printed = tt; as_many = omega arith }

  refused : (r : _) → IsTrue (list_all is_u64 (refusal_numbers r)) → LeftIn (n + 1) (step.refuses e.replica r)
  refused r x = record { call = refusing (n + 1) small link hashes e.replica state first r x; printed = tt; as_many = omega arith }

  id_u64 : (v : ℕ) → IsId v → IsTrue (list_all is_u64 (v ∷ []))
  id_u64 v id = one_number v (u64_of v (omega (arith, id_low v id)))

  u32_number : (k : ℕ) → k ≤ max_u32 → IsTrue (list_all is_u64 (k ∷ []))
  u32_number k le = one_number k (le-leb k max_u64 (omega (arith, le)))

  stays : (why : Idle) → Handed e ToldIn (λ k. k ≤ max_u32) (idle_input why) → LeftIn (n + 1) (idle_call e why)
  stays (Links id) x = stilled e.replica (state, first)
  stays Saves x = record {
    call = record {
      state = state;
      first = first;
      sent = tt;
      batch = record { lead = tt; members = tt; halt = tt; taken = tt; commits = tt; answers = tt; saved = u64_of (length e.saved) (omega (arith, old.few, small)); refused = tt };
      appends = tt;
    };
    printed = tt;
    as_many = omega arith;
  }
  stays Full x = refused (NoState max_u32) refl
  stays (NotMine from to y) x = refused (NotForMe to) (id_u64 to x.0)
  stays (NotLinked from to y) x = refused (NoLink from) (id_u64 from x.1.0)
  stays (NotThere k) x = refused (NoState k) (u32_number k x)

  pub called_in : (input : HostInput Message) → HostIn (n + 1) input → Enclosed (LeftIn (n + 1)) e (called link e input)
  called_in input x = call_keeps link e ToldIn (λ k. k ≤ max_u32) (λ input. LeftIn (n + 1))
      (record {
        stays = stays;
        steps = λ input told x. stepped told (told_in input told x);
        rolls = λ k s some x. stilled s (all_get (ReplicaIn (n + 1)) e.saved k s some later.states.saved);
      })
      input (told_so input x)

  -- the enclave has at most one state more than before
  pub enclave_after : (c : Called) → Enclosed (LeftIn (n + 1)) e c → EnclaveIn (n + 1) c.enclave
  enclave_after c done = record {
    states = called_throughout (ReplicaIn (n + 1)) (LeftIn (n + 1)) e c later.states done (done.call.call.state, done.call.call.first);
    few = elim done.saved [ inl same ↦ omega (arith, ap length same, old.few) | inr more ↦ omega (arith, ap length more, length-append e.saved (e.replica ∷ []), old.few) ];
  }

pub moved_in : (m : ℕ) (f : Enclaves) (v : ℕ) (before : Replica) (input : Option (HostInput Message)) (c : Called) → FieldIn m f → IsId v → EnclaveIn m c.enclave → CallIn m c.call → FieldIn m (moves f v before input c)
moved_in m f v before input c k id now call = record {
  running = goes_on (λ u. EnclaveIn m) (λ u. EnclaveIn m) f.running v c.enclave now (λ u e apart old. old) k.running;
  history = (record { replica = id; call = call }, k.history);
}
