-- What a run keeps of one client: what was handed for it was said, and what it heard was answered.
use Rattle.log_laws.proofs.History.{any_left, any_right, all_more, with_call}
use Rattle.std.proofs.Common.{◌≡◌, ℕ, ◌+◌, ◌-◌, ◌≤◌, ◌==◌, inl, inr, Bool, true, false, Option, Some, None, Result, Ok, Err, List, [], ◌∷◌, ◌++◌, refl, sym, ap, subst, ◌∙◌, arith}
use Rattle.std.specs.Prelude.{option_map, filter_map, map, max, nat_lt, if◌then◌else◌}
use Rattle.std.specs.List.{AllByRecursion, cons_option}
use Rattle.std.proofs.lemmas.Bool.{eqb-true}
use Rattle.std.proofs.lemmas.Option.{same_Some, none-some}
use Rattle.values.specs.declared.ids.ClientId.{ClientId}
use Rattle.values.specs.declared.message.Answer.{Answer}
use Rattle.values.specs.declared.message.Answer.TheVariants.{Outcome as Outcomes}
use Rattle.values.specs.declared.message.Part.{Part}
use Rattle.values.specs.declared.message.Reply.{Reply}
use Rattle.values.specs.declared.message.Reply.TheVariants.{Applied}
use Rattle.values.specs.declared.message.Response.TheVariants.{Backup as BackedUp}
use Rattle.values.specs.declared.want.Report.{Report}
use Rattle.values.specs.declared.want.Report.TheVariants as report
use Rattle.values.specs.declared.want.Want.{Want}
use Rattle.values.specs.declared.want.WantFault.{WantFault}
use Rattle.client_msgs.specs.Canonical.{canonical_request}
use Rattle.client_msgs.specs.Sizes.{size_fault}
use Rattle.record_rules.specs.declared.status.TheConstants.{OK}
use Rattle.schedule_model.specs.Client.{Core, Flight, first_request, numbers_needed, flight_request, flies, want_in, want_sizes, wanted, said, Meaning, Nothing, GoesOn, Reports, answer_meaning, last_after, heard_as, hear_in, heard}
use Rattle.schedule_model.specs.Reading.{max_u64}
use Rattle.replica_model.specs.Message.{Message}
use Rattle.replica_model.specs.Replica.{Replica}
use Rattle.replica_model.specs.Call.{Call}
use Rattle.group_model.specs.Enclave.{HostInput, Client}
use Rattle.group_model.specs.Group.{Answered, Hearing, answered_by}
use Rattle.group_model.specs.Run.{Recorded}
use Rattle.group_model.specs.Log.{AnyByRecursion, Outcome, ticket_request, outcome_in, outcomes_in}
use Rattle.group_model.specs.Reports.{Heard}
use Rattle.log_laws.proofs.Ending.{all-append}
use Rattle.report_laws.proofs.Meanings.{Done, goes_on_done}

-- what is in flight has sizes in range, and the last number that was used
abbrev pub FlightFits : ℕ → Option Flight → Type 0
FlightFits last None = Unit {0}
FlightFits last (Some f) = (f.number ≡ last) × (size_fault (first_request f.want) ≡ None)

-- under the number in flight there are no other bytes than those that are said
abbrev pub SaidIn : Option Flight → ℕ → List ℕ → Type 0
SaidIn None n bytes = Unit {0}
SaidIn (Some f) n bytes = n ≡ f.number → bytes ≡ canonical_request (flight_request f)

abbrev pub InputSaid : ClientId → ℕ → Option Flight → Option (HostInput Message) → Type 0
InputSaid c last flight (Some (Client client n bytes)) = client ≡ c → (n ≤ last) × SaidIn flight n bytes
InputSaid c last flight input = Unit {0}

abbrev pub CallSaid : ClientId → ℕ → Option Flight → Recorded → Type 0
CallSaid c last flight r = InputSaid c last flight r.input

abbrev pub IsOutcome : ClientId → ℕ → ℕ → Reply → Outcome → Type 0
IsOutcome client number index reply o = (o.client ≡ client) × (o.number ≡ number) × (o.index ≡ index) × (o.reply ≡ reply)

-- an answer that is an outcome is one of these outcomes
abbrev pub ListedAs : (Outcome → Type 0) → List Outcome → ClientId → ℕ → Answer → Type 0
ListedAs P os client number (Outcomes index reply) = AnyByRecursion (λ o. IsOutcome client number index reply o × P o) os
ListedAs P os client number answer = Unit {0}

abbrev pub Anything : Outcome → Type 0
Anything o = Unit {0}

abbrev pub Listed : List Outcome → Answered → Type 0
Listed os a = ListedAs Anything os a.client a.number a.answer

abbrev pub CallsSaid : ClientId → ℕ → Option Flight → Outcome → Type 0
CallsSaid c last flight o = AllByRecursion (CallSaid c last flight) o.calls

-- the first request of a want, in flight under this number
abbrev pub first_flight : Want → ℕ → Flight
first_flight w number = record { want = w; number = number; exposes = false }

-- the client heard that its want's backup was done, under the number before, as one of these outcomes answered what it had said
pub record BackupHeard (c : ClientId) (os : List Outcome) (hearings : List Hearing) (w : Want) (expose : ℕ) : Type 0 where
  pub number : ℕ
  pub next : expose ≡ number + 1
  pub index : ℕ
  pub heard : AnyByRecursion (Heard c (first_flight w number) index (Applied (BackedUp OK))) hearings
  pub given : ListedAs (CallsSaid c number (Some (first_flight w number))) os c number (Outcomes index (Applied (BackedUp OK)))

-- what exposes in flight was backed up before
abbrev pub FlightBegan : ClientId → List Outcome → List Hearing → Option Flight → Type 0
FlightBegan c os hearings None = Unit {0}
FlightBegan c os hearings (Some f) = f.exposes ≡ true → BackupHeard c os hearings f.want f.number

-- what the client heard, after these hearings, was answered, to what it had said
pub record HeardKept (c : ClientId) (os : List Outcome) (earlier : List Hearing) (h : Hearing) : Type 0 where
  pub before : Core
  pub flight_is : before.flight ≡ h.flight
  pub report_is : h.report ≡ (heard before h.answered.number h.answered.answer).1
  pub fits : FlightFits before.last before.flight
  pub began : FlightBegan c os earlier before.flight
  pub given : ListedAs (CallsSaid c before.last before.flight) os c h.answered.number h.answered.answer

-- each hearing of the client
abbrev pub HearingsKept : ClientId → List Outcome → List Hearing → Type 0
HearingsKept c os [] = Unit {0}
HearingsKept c os (h ∷ hs) = (h.client ≡ c → HeardKept c os hs h) × HearingsKept c os hs

pub record Follows (c : ClientId) (core : Core) (answers : List Answered) (hearings : List Hearing) (history : List Recorded) : Type 0 where
  pub fits : FlightFits core.last core.flight
  pub said : AllByRecursion (CallSaid c core.last core.flight) history
  pub listed : AllByRecursion (Listed (outcomes_in history)) answers
  pub heard : HearingsKept c (outcomes_in history) hearings
  pub began : FlightBegan c (outcomes_in history) hearings core.flight

-- ---- lists of outcomes
any_with : {A : Type 0} (P Q R : A → Type 0) → ((x : A) → P x → Q x → R x) → (xs : List A) → AnyByRecursion P xs → AllByRecursion Q xs → AnyByRecursion R xs
any_with P Q R both [] h k = absurd h
any_with P Q R both (x ∷ xs) (inl h) k = inl (both x h k.0)
any_with P Q R both (x ∷ xs) (inr h) k = inr (any_with P Q R both xs h k.1)

module _ (P : Outcome → Type 0) where
  listed_left : (xs ys : List Outcome) (client : ClientId) (number : ℕ) (answer : Answer) → ListedAs P xs client number answer → ListedAs P (xs ++ ys) client number answer
  listed_left xs ys client number (Outcomes index reply) h = any_left (λ o. IsOutcome client number index reply o × P o) xs ys h
  listed_left xs ys client number answer h = h

  listed_right : (xs ys : List Outcome) (client : ClientId) (number : ℕ) (answer : Answer) → ListedAs P ys client number answer → ListedAs P (xs ++ ys) client number answer
  listed_right xs ys client number (Outcomes index reply) h = any_right (λ o. IsOutcome client number index reply o × P o) xs ys h
  listed_right xs ys client number answer h = h

-- ---- more outcomes, and more hearings
began_more : (c : ClientId) (new os : List Outcome) (hearings : List Hearing) (o : Option Flight) → FlightBegan c os hearings o → FlightBegan c (new ++ os) hearings o
began_more c new os hearings None h = tt
began_more c new os hearings (Some f) h = λ exposes. let b = h exposes in
    record { number = b.number; next = b.next; index = b.index; heard = b.heard; given = listed_right (CallsSaid c b.number (Some (first_flight f.want b.number))) new os c b.number (Outcomes b.index (Applied (BackedUp OK))) b.given }

pub began_later : (c : ClientId) (os : List Outcome) (h : Hearing) (hearings : List Hearing) (o : Option Flight) → FlightBegan c os hearings o → FlightBegan c os (h ∷ hearings) o
began_later c os h hearings None k = tt
began_later c os h hearings (Some f) k = λ exposes. let b = k exposes in
    record { number = b.number; next = b.next; index = b.index; heard = inr b.heard; given = b.given }

hearings_more : (c : ClientId) (new os : List Outcome) (hearings : List Hearing) → HearingsKept c os hearings → HearingsKept c (new ++ os) hearings
hearings_more c new os [] k = tt
hearings_more c new os (h ∷ hs) k = (
  λ is. let old = k.0 is in record {
    before = old.before;
    flight_is = old.flight_is;
    report_is = old.report_is;
    fits = old.fits;
    began = began_more c new os hs old.before.flight old.began;
    given = listed_right (CallsSaid c old.before.last old.before.flight) new os c h.answered.number h.answered.answer old.given;
  },
  hearings_more c new os hs k.1,
)

module _ (r : Recorded) (calls : List Recorded) (v : ℕ) where
  one_listed : (a : ClientId × ℕ × Answer) (rest : List Outcome) (others : List Answered) → AllByRecursion (Listed rest) others → AllByRecursion (Listed (cons_option (outcome_in r calls a) rest)) (answered_by v a ∷ others)
  one_listed (client, number, Outcomes index reply) rest others k =
      let o : Outcome = record { calls = calls; replica = r.replica; client = client; number = number; request = ticket_request r index; index = index; reply = reply } in
      (inl ((refl, refl, refl, refl), tt), all_more (Listed rest) (Listed (o ∷ rest)) (λ a h. listed_right Anything (o ∷ []) rest a.client a.number a.answer h) others k)
  one_listed (client, number, other) rest others k = (tt, k)

  each_listed : (answers : List (ClientId × ℕ × Answer)) → AllByRecursion (Listed (filter_map (outcome_in r calls) answers)) (map (answered_by v) answers)
  each_listed [] = tt
  each_listed (a ∷ answers) = one_listed a (filter_map (outcome_in r calls) answers) (map (answered_by v) answers) (each_listed answers)

module _ (P : Recorded → Type 0) where
  one_calls : (r : Recorded) (calls : List Recorded) → AllByRecursion P calls → (a : ClientId × ℕ × Answer) (rest : List Outcome) → AllByRecursion (λ (o : Outcome). AllByRecursion P o.calls) rest → AllByRecursion (λ (o : Outcome). AllByRecursion P o.calls) (cons_option (outcome_in r calls a) rest)
  one_calls r calls h (client, number, Outcomes index reply) rest k = (h, k)
  one_calls r calls h (client, number, other) rest k = k

  each_calls : (r : Recorded) (calls : List Recorded) → AllByRecursion P calls → (answers : List (ClientId × ℕ × Answer)) → AllByRecursion (λ (o : Outcome). AllByRecursion P o.calls) (filter_map (outcome_in r calls) answers)
  each_calls r calls h [] = tt
  each_calls r calls h (a ∷ answers) = one_calls r calls h a (filter_map (outcome_in r calls) answers) (each_calls r calls h answers)

  all_calls : (history : List Recorded) → AllByRecursion P history → AllByRecursion (λ (o : Outcome). AllByRecursion P o.calls) (outcomes_in history)
  all_calls [] h = tt
  all_calls (r ∷ rs) h = all-append (λ (o : Outcome). AllByRecursion P o.calls) (filter_map (outcome_in r (r ∷ rs)) r.call.batch.answers) (outcomes_in rs) (each_calls r (r ∷ rs) h r.call.batch.answers) (all_calls rs h.1)

-- ---- a call, and what is kept of it
module _ (c : ClientId) (core : Core) (answers : List Answered) (hearings : List Hearing) (history : List Recorded) (k : Follows c core answers hearings history) where
  pub call_follows : (v : ℕ) (before : Replica) (input : Option (HostInput Message)) (call : Call) → InputSaid c core.last core.flight input → Follows c core (answers ++ map (answered_by v) call.batch.answers) hearings (with_call history v before input call)
  call_follows v before input call x =
      let now : Recorded = record { replica = v; before = before; input = input; call = call } in
      let new : List Outcome = filter_map (outcome_in now (now ∷ history)) call.batch.answers in
      record {
        fits = k.fits;
        said = (x, k.said);
        listed = all-append (Listed (new ++ outcomes_in history)) answers (map (answered_by v) call.batch.answers)
            (all_more (Listed (outcomes_in history)) (Listed (new ++ outcomes_in history)) (λ a h. listed_right Anything new (outcomes_in history) a.client a.number a.answer h) answers k.listed)
            (all_more (Listed new) (Listed (new ++ outcomes_in history)) (λ a h. listed_left Anything new (outcomes_in history) a.client a.number a.answer h) (map (answered_by v) call.batch.answers) (each_listed now (now ∷ history) v call.batch.answers));
        heard = hearings_more c new (outcomes_in history) hearings k.heard;
        began = began_more c new (outcomes_in history) hearings core.flight k.began;
      }

-- ---- the client's core moves on

later_input : (c : ClientId) (last later : ℕ) (flight next : Option Flight) → last ≤ later → ((n : ℕ) (bytes : List ℕ) → n ≤ last → SaidIn next n bytes) → (input : Option (HostInput Message)) → InputSaid c last flight input → InputSaid c later next input
later_input c last later flight next up new (Some (Client client n bytes)) h = λ is. let old = h is in (omega (arith, old.0, up), new n bytes old.0)
later_input c last later flight next up new (Some other) h = tt
later_input c last later flight next up new None h = tt

module _ (c : ClientId) (core : Core) (answers : List Answered) (hearings : List Hearing) (history : List Recorded) (k : Follows c core answers hearings history) where
  -- a request flies, or none does, after these hearings
  flies_follows : (w : Want) (exposes : Bool) (hs : List Hearing) → size_fault (first_request w) ≡ None → HearingsKept c (outcomes_in history) hs → FlightBegan c (outcomes_in history) hs (flies core w exposes).flight → Follows c (flies core w exposes) answers hs history
  flies_follows w exposes hs sized heard began = record {
    fits = (refl, sized);
    said = all_more (CallSaid c core.last core.flight) (CallSaid c (core.last + 1) (flies core w exposes).flight) (λ r h. later_input c core.last (core.last + 1) core.flight (flies core w exposes).flight (omega arith) (λ n bytes le is. absurd (omega (arith, le, is))) r.input h) history k.said;
    listed = k.listed;
    heard = heard;
    began = began;
  }

  rests_follows : (last : ℕ) (hs : List Hearing) → core.last ≤ last → HearingsKept c (outcomes_in history) hs → Follows c (record { last = last; flight = None }) answers hs history
  rests_follows last hs up heard = record {
    fits = tt;
    said = all_more (CallSaid c core.last core.flight) (CallSaid c last None) (λ r h. later_input c core.last last core.flight None up (λ n bytes le. tt) r.input h) history k.said;
    listed = k.listed;
    heard = heard;
    began = tt;
  }

  -- a hearing that leaves the core as it is
  pub stays_follows : (h : Hearing) → (h.client ≡ c → HeardKept c (outcomes_in history) hearings h) → Follows c core answers (h ∷ hearings) history
  stays_follows h kept = record { fits = k.fits; said = k.said; listed = k.listed; heard = (kept, k.heard); began = began_later c (outcomes_in history) h hearings core.flight k.began }

  after_up : (r : Report) → core.last ≤ last_after core r
  after_up (report.Undecided last) = max_up core.last last
    where
      max_up : (m n : ℕ) → m ≤ max m n
      max_up m n = omega arith
  after_up r = omega arith

  with_calls : (client : ClientId) (number : ℕ) (answer : Answer) → ListedAs Anything (outcomes_in history) client number answer → ListedAs (CallsSaid c core.last core.flight) (outcomes_in history) client number answer
  with_calls client number (Outcomes index reply) h =
      any_with (λ o. IsOutcome client number index reply o × Anything o) (CallsSaid c core.last core.flight) (λ o. IsOutcome client number index reply o × CallsSaid c core.last core.flight o)
      (λ o p q. (p.0, q)) (outcomes_in history) h (all_calls (CallSaid c core.last core.flight) history k.said)
  with_calls client number answer h = tt

  -- what the client now hears
  module _ (a : Answered) (its : a.client ≡ c) (listed : Listed (outcomes_in history) a) where
    abbrev heard_now : Hearing
    heard_now = record { client = c; flight = core.flight; answered = a; report = (heard core a.number a.answer).1 }

    given_now : ListedAs (CallsSaid c core.last core.flight) (outcomes_in history) c a.number a.answer
    given_now = subst (λ d. ListedAs (CallsSaid c core.last core.flight) (outcomes_in history) d a.number a.answer) its (with_calls a.client a.number a.answer listed)

    hearing_kept : heard_now.client ≡ c → HeardKept c (outcomes_in history) hearings heard_now
    hearing_kept is = record { before = core; flight_is = refl; report_is = refl; fits = k.fits; began = k.began; given = given_now }

    stays_now : Follows c core answers (heard_now ∷ hearings) history
    stays_now = stays_follows heard_now hearing_kept

    first_is : (f : Flight) (last : ℕ) → f.number ≡ last → f.exposes ≡ false → f ≡ first_flight f.want last
    first_is f last number_is first = ap (λ n. record { want = f.want; number = n; exposes = f.exposes }) number_is ∙ ap (λ b. record { want = f.want; number = last; exposes = b }) first

    -- the backup was done: the expose flies
    goes_on_follows : (f : Flight) → core.flight ≡ Some f → a.number ≡ f.number → answer_meaning f a.answer ≡ GoesOn → Follows c (flies core f.want true) answers (heard_now ∷ hearings) history
    goes_on_follows f is mine means =
        let fits : FlightFits core.last (Some f) = subst (FlightFits core.last) is k.fits in
        let done : Done f a.answer = goes_on_done f a.answer means in
        flies_follows f.want true (heard_now ∷ hearings) fits.1 (hearing_kept, k.heard) (λ exposes. record {
          number = core.last;
          next = refl;
          index = done.index;
          heard = inl (refl, is ∙ ap Some (first_is f core.last fits.0 done.first), mine ∙ fits.0, done.answer_is);
          given = subst (λ answer. ListedAs (CallsSaid c core.last (Some (first_flight f.want core.last))) (outcomes_in history) c core.last answer) done.answer_is
              (subst (λ n. ListedAs (CallsSaid c core.last (Some (first_flight f.want core.last))) (outcomes_in history) c n a.answer) (mine ∙ fits.0)
              (subst (λ n. ListedAs (CallsSaid c core.last (Some (first_flight f.want n))) (outcomes_in history) c a.number a.answer) fits.0
              (subst (λ b. ListedAs (CallsSaid c core.last (Some (record { want = f.want; number = f.number; exposes = b }))) (outcomes_in history) c a.number a.answer) done.first
              (subst (λ o. ListedAs (CallsSaid c core.last o) (outcomes_in history) c a.number a.answer) is given_now))));
        })

    heard_as_follows : (f : Flight) → core.flight ≡ Some f → a.number ≡ f.number → (m : Meaning) → answer_meaning f a.answer ≡ m → Follows c (heard_as core f m).0 answers (heard_now ∷ hearings) history
    heard_as_follows f is mine Nothing means = stays_now
    heard_as_follows f is mine GoesOn means = goes_on_follows f is mine means
    heard_as_follows f is mine (Reports r) means = rests_follows (last_after core r) (heard_now ∷ hearings) (after_up r) (hearing_kept, k.heard)

    hear_in_follows : (o : Option Flight) → core.flight ≡ o → Follows c (hear_in core a.number a.answer o).0 answers (heard_now ∷ hearings) history
    hear_in_follows None is = stays_now
    hear_in_follows (Some f) is = by_number (a.number == f.number) refl
      where
        by_number : (b : Bool) → (a.number == f.number) ≡ b → Follows c (if b then heard_as core f (answer_meaning f a.answer) else (core, None)).0 answers (heard_now ∷ hearings) history
        by_number true same = heard_as_follows f is (eqb-true a.number f.number same) (answer_meaning f a.answer) refl
        by_number false same = stays_now

    pub heard_follows : Follows c (heard core a.number a.answer).0 answers (heard_now ∷ hearings) history
    heard_follows = hear_in_follows core.flight refl

  -- what the client says
  said_input : (last number : ℕ) (bytes : List ℕ) (o : Option Flight) → FlightFits last o → option_map {U = ℕ × List ℕ} (λ (f : Flight). (f.number, canonical_request (flight_request f))) o ≡ Some (number, bytes) → (number ≤ last) × SaidIn o number bytes
  said_input last number bytes None fits is = absurd (none-some (number, bytes) is)
  said_input last number bytes (Some f) fits is =
      let one = same_Some (f.number, canonical_request (flight_request f)) (number, bytes) is in
      (subst (λ n. n ≤ last) (ap (λ (x : ℕ × List ℕ). x.0) one) (omega (arith, fits.0)), λ same. sym (ap (λ (x : ℕ × List ℕ). x.1) one))

  pub say_follows : (number : ℕ) (bytes : List ℕ) → said core ≡ Some (number, bytes) → (number ≤ core.last) × SaidIn core.flight number bytes
  say_follows number bytes is = said_input core.last number bytes core.flight k.fits is

abbrev ok_or : Core → Result Core WantFault → Core
ok_or core (Ok after) = after
ok_or core (Err fault) = core

not_true : false ≡ true → ⊥
not_true e = cc

-- a want that is taken up flies
pub wanted_follows : (c : ClientId) (core : Core) (answers : List Answered) (hearings : List Hearing) (history : List Recorded) → Follows c core answers hearings history → (w : Want) (after : Core) → wanted core w ≡ Ok after → Follows c after answers hearings history
wanted_follows c core answers hearings history k w after is = flight_in core.flight is
  where
    err_ok : (f : WantFault) → Err f ≡ Ok after → ⊥
    err_ok f same = let e : Err f ≡ Ok after = same in cc

    numbers_in : (b : Bool) (f : WantFault) → size_fault (first_request w) ≡ None → (if b then Err f else Ok (flies core w false)) ≡ Ok after → Follows c after answers hearings history
    numbers_in true f sized same = absurd (err_ok f same)
    numbers_in false f sized same = subst (λ x. Follows c x answers hearings history) (ap (ok_or core) same) (flies_follows c core answers hearings history k w false hearings sized k.heard (λ exposes. absurd (not_true exposes)))

    sizes_in : (o : Option (Part × ℕ)) → size_fault (first_request w) ≡ o → want_sizes core w o ≡ Ok after → Follows c after answers hearings history
    sizes_in None sized same = numbers_in (nat_lt (max_u64 - core.last) (numbers_needed w)) _ sized same
    sizes_in (Some p) sized same = absurd (err_ok _ same)

    flight_in : (o : Option Flight) → want_in core w o ≡ Ok after → Follows c after answers hearings history
    flight_in None same = sizes_in (size_fault (first_request w)) refl same
    flight_in (Some f) same = absurd (err_ok _ same)
