-- Every event keeps a run in range, and what comes of it is in range.
use Rattle.std.proofs.Common.{◌≡◌, ℕ, ◌+◌, ◌≤◌, ◌==◌, ◌&&◌, zero, suc, not, max, Bool, true, false, Option, Some, None, Result, Ok, Err, List, [], ◌∷◌, ◌++◌, length, map, refl, sym, ap, subst, arith}
use Rattle.std.specs.Prelude.{IsTrue, IfSome, nat_le, is_none, unwrap_or, fold, find, option_map}
use Rattle.std.specs.List.{AllByRecursion, list_all, range_with_len}
use Rattle.std.proofs.lemmas.Bool.{cond_both, le-leb, and_from}
use Rattle.std.proofs.lemmas.List.{length-append}
use Rattle.std.proofs.lemmas.Option.{none-some}
use Rattle.group_quorum.specs.Conf.{Conf}
use Rattle.group_quorum.specs.Voters.{conf_or, rising, is_in, insert_rising, conf_of}
use Rattle.values.specs.declared.limits.TheConstants.{MAX_EVENTS}
use Rattle.values.specs.declared.batch.Batch.{Batch}
use Rattle.values.specs.declared.entry.LogEntry.{LogEntry}
use Rattle.values.specs.declared.entry.Point.{Point}
use Rattle.values.specs.declared.event.Event.{Event}
use Rattle.values.specs.declared.event.Event.TheVariants as event
use Rattle.values.specs.declared.ids.ClientId.{ClientId}
use Rattle.values.specs.declared.message.Answer.{Answer}
use Rattle.values.specs.declared.want.Report.{Report}
use Rattle.values.specs.declared.want.Want.{Want}
use Rattle.values.specs.declared.want.WantFault.{WantFault}
use Rattle.client_msgs.specs.Canonical.{canonical_request}
use Rattle.schedule_model.specs.Client.{Flight, Core, new_core, wanted, heard, flight_request}
use Rattle.schedule_model.specs.Refusals.{GroupRefusal, Lost, NotRunning, AlreadyStarted, NoSuchState, NotYours}
use Rattle.schedule_model.specs.Reading.{max_u32, max_u64}
use Rattle.replica_model.specs.Path.{Link}
use Rattle.replica_model.specs.Keyed.{value_at}
use Rattle.replica_model.specs.Message.{Message}
use Rattle.group_model.specs.Enclave.{Hello, Begin, Learn, hello_id, HostInput, Tick, Peer, Client, Join, Admit, Remove, Save, Roll, Connect, Margin, Enclave, Called, called, started}
use Rattle.group_model.specs.Field.{Answers, Unreadable, Nothing}
use Rattle.group_model.specs.Group.{Setup, Sent, Answered, sent_by, answered_by, numbered, but, core_of, put_core, saves_of, is_client, keeps, committed_in, taken_index}
use Rattle.group_model.specs.Happens as happening
use Rattle.group_model.specs.Happens.{Came, Refused, Replied, Reported, Passed, Happening, Happened, Broken, Unanswered, happens}
use Rattle.group_model.specs.Run.{Enclaves, World, moves, newly, start_enclave, call_enclave, enclaves, empty_world, group_after, run}
use Rattle.trace_model.specs.TraceLines.{is_u64, is_client_id, group_refusal_numbers}
use Rattle.trace_model.specs.Hashing.{GivesHashes}
use Rattle.log_laws.proofs.Ending.{all-append}
use Rattle.log_laws.proofs.History.{all_more}
use Rattle.log_laws.proofs.Lookups.{without_stood}
use Rattle.log_laws.proofs.Moving.{all_get}
use Rattle.log_laws.proofs.Standing.{started_throughout}
use Rattle.range_laws.proofs.Bounds.{still_in}
use Rattle.range_laws.proofs.Raising.{all_filter, insert_in}
use Rattle.range_laws.proofs.Confs.{begun_conf}
use Rattle.range_laws.proofs.Rules.{u64_of, id_low}
use Rattle.range_laws.proofs.Hearing.{one_number}
use Rattle.range_laws.proofs.Worlds.{FlightIn, CoreIn, ReportIn, MailIn, GivenIn, ClientIn, FieldIn, WorldIn, CameIn, Stays, handed_in, flight_in, wanted_in, want_fault_in, heard_in, world_later, HostIn, ReplicaIn, called_in, enclave_after, moved_in, IsShort, IsShortWant}
use Rattle.range_laws.specs.Ranges.{IsId, AreIds, ConfIn, EntryIn, StateIn, SentIn, AnsweredIn, BatchIn, EventIn, WantIn}

-- how an enclave is started
abbrev HelloIn : Hello → Type 0
HelloIn (Begin id margin limit voters) = (limit ≤ max_u32) × ConfIn (record { margin = margin; voters = voters })
HelloIn (Learn id linked) = Unit {0}

-- ---- what a batch adds
mail_long : (v : ℕ) (sent : List (ℕ × Message)) → length (map (sent_by v) sent) ≡ length sent
mail_long v [] = refl
mail_long v (x ∷ sent) = ap suc (mail_long v sent)

given_long : (v : ℕ) (answers : List (ClientId × ℕ × Answer)) → length (map (answered_by v) answers) ≡ length answers
given_long v [] = refl
given_long v (a ∷ answers) = ap suc (given_long v answers)

fresh_in : (n : ℕ) (hello : Hello) → IsId (hello_id hello) → HelloIn hello → ReplicaIn n (started hello).replica
fresh_in n (Begin id margin limit voters) who x =
    let s : StateIn n (started (Begin id margin limit voters)).replica = record {
      me = who;
      limit = x.0;
      path = record { entries = tt; long = omega arith };
      base = omega arith;
      promised = omega arith;
      committed = omega arith;
      term = omega arith;
      known = omega arith;
      role = tt;
      tickets = tt;
      halted = tt;
    } in
    (s, x.1)
fresh_in n (Learn id linked) who x =
    let s : StateIn n (started (Learn id linked)).replica = record {
      me = who;
      limit = omega arith;
      path = record { entries = tt; long = omega arith };
      base = omega arith;
      promised = omega arith;
      committed = omega arith;
      term = omega arith;
      known = omega arith;
      role = record { path = record { entries = tt; long = omega arith }; limit = omega arith; next = omega arith };
      tickets = tt;
      halted = tt;
    } in
    (s, tt)

one_saved : (n : ℕ) (hello : Hello) → length (started hello).saved ≤ n + 1
one_saved n (Begin id margin limit voters) = omega arith
one_saved n (Learn id linked) = omega arith

started_in : (n : ℕ) (f : Enclaves) (hello : Hello) → FieldIn n f → IsId (hello_id hello) → HelloIn hello → FieldIn n (start_enclave f hello)
started_in n f hello k who x =
    let now = fresh_in n hello who x in
    moved_in n f (hello_id hello) (started hello).replica None (newly (started hello)) k who (record { states = started_throughout (ReplicaIn n) hello now; few = one_saved n hello }) (still_in n (started hello).replica now.0 now.1)

module _ (m v : ℕ) (id : IsId v) where
  mailed : (sent : List (ℕ × Message)) → AllByRecursion (SentIn m) sent → AllByRecursion (MailIn m) (map (sent_by v) sent)
  mailed [] h = tt
  mailed (x ∷ sent) h = ((id, h.0.0, h.0.1), mailed sent h.1)

  given : (answers : List (ClientId × ℕ × Answer)) → AllByRecursion (AnsweredIn m) answers → AllByRecursion (GivenIn m) (map (answered_by v) answers)
  given [] h = tt
  given (a ∷ answers) h = ((id, h.0), given answers h.1)

range_in : (from count : ℕ) → AllByRecursion (λ k. (from ≤ k) × (k + 1 ≤ from + count)) (range_with_len from count)
range_in from zero = tt
range_in from (suc count) = ((omega arith, omega arith), all_more (λ k. (from + 1 ≤ k) × (k + 1 ≤ (from + 1) + count)) (λ k. (from ≤ k) × (k + 1 ≤ from + suc count)) (λ k h. (omega (arith, h.0), omega (arith, h.1))) (range_with_len (from + 1) count) (range_in (from + 1) count))

reach_low : (m n : ℕ) (commits : List (ℕ × LogEntry)) → n ≤ m → AllByRecursion (λ (c : ℕ × LogEntry). (c.0 ≤ m) × EntryIn m c.1) commits → fold (λ (n : ℕ) (c : ℕ × LogEntry). max n c.0) n commits ≤ m
reach_low m n [] le h = le
reach_low m n (c ∷ commits) le h = reach_low m (max n c.0) commits (omega (arith, le, h.0.0)) h.1

told_low : (m : ℕ) (b : Batch) → BatchIn m b → committed_in b ≤ m
told_low m b h = reach_low m (taken_index b.taken) b.commits (of_taken b.taken h.taken) h.commits
  where
    of_taken : (o : Option Point) → IfSome o (λ (p : Point). (p.index ≤ m) × IsTrue (Rattle.trace_model.specs.TraceLines.is_hash p.hash)) → taken_index o ≤ m
    of_taken None x = omega arith
    of_taken (Some p) x = x.0

u64_number : (k : ℕ) → k ≤ max_u64 → IsTrue (list_all is_u64 (k ∷ []))
u64_number k le = one_number k (le-leb k max_u64 le)

id_number : (v : ℕ) → IsId v → IsTrue (list_all is_u64 (v ∷ []))
id_number v id = one_number v (u64_of v (omega (arith, id_low v id)))

core_in : (cores : List (ClientId × Core)) → AllByRecursion ClientIn cores → (c : ClientId) → IfSome (core_of cores c) CoreIn
core_in [] h c = tt
core_in (x ∷ cores) h c = cond_both (is_client x.0 c) (Some x) (find (λ y. is_client y.0 c) cores) (λ o. IfSome (option_map (λ (y : ClientId × Core). y.1) o) CoreIn) (λ b. h.0.1) (λ b. core_in cores h.1 c)

put_core_in : (cores : List (ClientId × Core)) → AllByRecursion ClientIn cores → (c : ClientId) (core : Core) → IsTrue (is_client_id c) → CoreIn core → AllByRecursion ClientIn (put_core cores c core)
put_core_in [] h c core id fine = ((id, fine), tt)
put_core_in (x ∷ cores) h c core id fine = cond_both (is_client x.0 c) ((c, core) ∷ cores) (x ∷ put_core cores c core) (λ ys. AllByRecursion ClientIn ys) (λ b. ((id, fine), h.1)) (λ b. (h.0, put_core_in cores h.1 c core id fine))

module _ (n : ℕ) (small : n + 1 ≤ MAX_EVENTS) (link : Link) (hashes : GivesHashes link) (g : World) (k : WorldIn n g) (Short : Type 0) where
  now : WorldIn (n + 1) g
  now = world_later n (n + 1) (omega arith) g k

  refused_if_stays : (b : Bool) (refusal : GroupRefusal) (next : World → Happening Message Enclaves) → (Short → IsTrue (list_all is_u64 (group_refusal_numbers refusal))) → Stays Short (n + 1) (next g) → Stays Short (n + 1) (happening.refused_if (enclaves link) b refusal g next)
  refused_if_stays true refusal next x h = (now, x)
  refused_if_stays false refusal next x h = h

  -- a call, and what is kept of it
  kept_in : (v : ℕ) → IsId v → (e : Enclave) (input : HostInput Message) → value_at g.field.running v ≡ Some e → HostIn (n + 1) input
      → WorldIn (n + 1) (keeps g v (called link e input).call.batch (called link e input).call.sent (moves g.field v e.replica (Some input) (called link e input))) × CameIn Short (n + 1) (keeps g v (called link e input).call.batch (called link e input).call.sent (moves g.field v e.replica (Some input) (called link e input))) (Replied v (called link e input).call.batch)
  kept_in v id e input is fine =
      let c : Called = called link e input in
      let done = called_in n small link hashes e (k.field.running v e is) input fine in
      let x = done.call in
      let b : Batch = c.call.batch in
      let longer : length (g.messages ++ map (sent_by v) c.call.sent) ≡ length g.messages + length c.call.sent = omega (arith, length-append g.messages (map (sent_by v) c.call.sent), mail_long v c.call.sent) in (
        record {
          field = moved_in (n + 1) g.field v e.replica (Some input) c now.field id (enclave_after n small link hashes e (k.field.running v e is) c done) x.call;
          mail = all-append (MailIn (n + 1)) g.messages (map (sent_by v) c.call.sent) now.mail (mailed (n + 1) v id c.call.sent x.call.sent);
          answers = all-append (GivenIn (n + 1)) g.answers (map (answered_by v) b.answers) now.answers (given (n + 1) v id b.answers x.call.batch.answers);
          cores = k.cores;
          running = k.running;
          waiting = all-append (λ k. (1 ≤ k) × (k ≤ length (g.messages ++ map (sent_by v) c.call.sent))) g.waiting (range_with_len (length g.messages + 1) (length c.call.sent))
              (all_more (λ k. (1 ≤ k) × (k ≤ length g.messages)) (λ k. (1 ≤ k) × (k ≤ length (g.messages ++ map (sent_by v) c.call.sent))) (λ k y. (y.0, omega (arith, y.1, longer))) g.waiting k.waiting)
              (all_more (λ k. (length g.messages + 1 ≤ k) × (k + 1 ≤ (length g.messages + 1) + length c.call.sent)) (λ k. (1 ≤ k) × (k ≤ length (g.messages ++ map (sent_by v) c.call.sent))) (λ k y. (omega (arith, y.0), omega (arith, y.1, longer))) (range_with_len (length g.messages + 1) (length c.call.sent)) (range_in (length g.messages + 1) (length c.call.sent)));
          committed = omega (arith, now.committed, told_low (n + 1) b x.call.batch);
        },
        (id, x.call.batch, x.printed, omega (arith, longer, x.as_many), omega (arith, length-append g.answers (map (answered_by v) b.answers), given_long v b.answers)),
      )

  replied_stays : (v : ℕ) → IsId v → (input : HostInput Message) (o : Option Enclave) → value_at g.field.running v ≡ o → HostIn (n + 1) input → Stays Short (n + 1) (happening.replied (enclaves link) v g (call_enclave link g.field v input o))
  replied_stays v id input None is fine = tt
  replied_stays v id input (Some e) is fine = kept_in v id e input is fine

  tells_stays : (v : ℕ) → IsId v → (input : HostInput Message) → HostIn (n + 1) input → Stays Short (n + 1) (happening.tells (enclaves link) v input g)
  tells_stays v id input fine = refused_if_stays (not (is_in g.running v)) (NotRunning v) (happening.calls (enclaves link) v input) (λ short. id_number v id) (replied_stays v id input (value_at g.field.running v) refl fine)

  loses_stays : (j : ℕ) → j ≤ max_u64 → (o : Option (Sent Message)) → Stays Short (n + 1) (happening.loses (enclaves link) j o g)
  loses_stays j le None = (now, λ short. u64_number j le)
  loses_stays j le (Some x) = refused_if_stays (is_in g.lost j) (Lost j) (λ g. Happened Passed (record g { lost = j ∷ g.lost; waiting = but j g.waiting })) (λ short. u64_number j le)
      (record { field = now.field; mail = now.mail; answers = now.answers; cores = k.cores; running = k.running; waiting = all_filter (λ k. (1 ≤ k) × (k ≤ length g.messages)) (λ k. not (k == j)) g.waiting k.waiting; committed = now.committed }, tt)

  crashes_stays : (v : ℕ) → Stays Short (n + 1) (happening.crashes (enclaves link) v g)
  crashes_stays v = (
    record {
      field = record { running = λ u e is. now.field.running u e (without_stood g.field.running v u e is); history = now.field.history };
      mail = now.mail;
      answers = now.answers;
      cores = k.cores;
      running = all_filter IsId (λ u. not (u == v)) g.running k.running;
      waiting = k.waiting;
      committed = now.committed;
    },
    tt,
  )

  rolls_stays : (v j : ℕ) → IsId v → j ≤ max_u32 → Stays Short (n + 1) (happening.rolls (enclaves link) v j g)
  rolls_stays v j id le = refused_if_stays (not (nat_le j (saves_of g.saves v))) (NoSuchState j) (λ g. happening.rolled (enclaves link) v g ((enclaves link).call g.field v (Roll j))) (λ short. u64_number j (omega (arith, le))) (put_back (value_at g.field.running v) refl)
    where
      put_back : (o : Option Enclave) → value_at g.field.running v ≡ o → Stays Short (n + 1) (happening.rolled (enclaves link) v g (call_enclave link g.field v (Roll j) o))
      put_back None is = tt
      put_back (Some e) is =
          let c : Called = called link e (Roll j) in
          let h : World = keeps g v c.call.batch c.call.sent (moves g.field v e.replica (Some (Roll j)) c) in
          let x = kept_in v id e (Roll j) is le in
          let r = x.0 in
          cond_both (is_none c.call.batch.refused) (record h { rolled = v ∷ h.rolled }) h (λ w. WorldIn (n + 1) w × CameIn Short (n + 1) w (Replied v c.call.batch))
          (λ b. (record { field = r.field; mail = r.mail; answers = r.answers; cores = r.cores; running = r.running; waiting = r.waiting; committed = r.committed }, x.1))
          (λ b. x)

  -- a learner starts
  abbrev begun : ℕ → Enclaves → Happening Message Enclaves
  begun x f = Happened Passed (record g { running = insert_rising x g.running; started = x ∷ g.started; field = f })

  linked_stays : (x : ℕ) (rs : List ℕ) (f : Enclaves) → IsId x → AreIds rs → FieldIn (n + 1) f → Stays Short (n + 1) (happening.connected (enclaves link) x rs f (begun x))
  linked_stays x [] f id ids fine = (record { field = fine; mail = now.mail; answers = now.answers; cores = k.cores; running = insert_in x g.running id k.running; waiting = k.waiting; committed = now.committed }, tt)
  linked_stays x (r ∷ rs) f id ids fine = by_value (value_at f.running r) refl (λ f' fine'. linked_stays x rs f' id ids.1 fine')
    where
      by_value : (o : Option Enclave) → value_at f.running r ≡ o → ((f' : Enclaves) → FieldIn (n + 1) f' → Stays Short (n + 1) (happening.connected (enclaves link) x rs f' (begun x)))
          → Stays Short (n + 1) (elim (call_enclave link f r (Connect x) o) [ Answers batch sent h ↦ happening.connected (enclaves link) x rs h (begun x) | Unreadable at h ↦ Broken at h | Nothing ↦ Unanswered ])
      by_value None is rest = tt
      by_value (Some e) is rest =
          let old = fine.running r e is in
          let c : Called = called link e (Connect x) in
          rest (moves f r e.replica (Some (Connect x)) c)
          (moved_in (n + 1) f r e.replica (Some (Connect x)) c fine ids.0 (record { states = record { now = old.states.now; saved = old.states.saved }; few = old.few }) (still_in (n + 1) e.replica old.states.now.0 old.states.now.1))

  starts_stays : (x : ℕ) → IsId x → Stays Short (n + 1) (happening.starts (enclaves link) x g)
  starts_stays x id =
      linked_stays x g.running (start_enclave g.field (Learn x g.running)) id k.running
      (started_in (n + 1) g.field (Learn x g.running) now.field id tt)

  -- clients
  wants_stays : (c : ClientId) → IsTrue (is_client_id c) → (core : Core) → CoreIn core → (most : ℕ) → most ≤ max_u64 → (w : Want) → WantIn w → (Short → IsShortWant most w) → (r : Result Core WantFault) → wanted core w ≡ r → Stays Short (n + 1) (happening.wants (enclaves link) c r g)
  wants_stays c id core fine most fits w read stored (Err fault) is = (now, λ short. want_fault_in most fits core w fine read fault is (stored short))
  wants_stays c id core fine most fits w read stored (Ok core') is =
      (record { field = now.field; mail = now.mail; answers = now.answers; cores = put_core_in g.cores k.cores c core' id (wanted_in c core w fine read (Ok core') is); running = k.running; waiting = k.waiting; committed = now.committed }, tt)

  says_stays : (c : ClientId) (v : ℕ) → IsTrue (is_client_id c) → IsId v → (o : Option Core) → IfSome o CoreIn → Stays Short (n + 1) (happening.says (enclaves link) c v (happening.said_if_any (enclaves link) o) g)
  says_stays c v id who None fine = (now, λ short. refl)
  says_stays c v id who (Some core) fine = by_flight core.flight fine.flight
    where
      by_flight : (o : Option Flight) → IfSome o (FlightIn core.last) → Stays Short (n + 1) (happening.says (enclaves link) c v (option_map (λ f. (f.number, canonical_request (flight_request f))) o) g)
      by_flight None x = (now, λ short. refl)
      by_flight (Some f) x = tells_stays v who (Client c f.number (canonical_request (flight_request f))) (and_from (is_client_id c) (is_u64 f.number) id (le-leb f.number max_u64 x.number), flight_in c core.last f id x)

  hears_with_stays : (c : ClientId) → IsTrue (is_client_id c) → (a : Answered) → GivenIn n a → (o : Option Core) → IfSome o CoreIn → Stays Short (n + 1) (happening.hears_with (enclaves link) c a o g)
  hears_with_stays c id a x None fine = (now, tt)
  hears_with_stays c id a x (Some core) fine =
      let h = heard_in n (omega (arith, small)) core a fine x in
      reported (heard core a.number a.answer) h.0 h.1
    where
      came_in : (h : World) (o : Option Report) → IfSome o ReportIn → CameIn Short (n + 1) h (happening.came_of (enclaves link) c o)
      came_in h None y = tt
      came_in h (Some r) y = (id, y)

      reported : (z : Core × Option Report) → CoreIn z.0 → IfSome z.1 ReportIn → Stays Short (n + 1) (happening.hears_report (enclaves link) c core a z g)
      reported (after, r) y z = (record { field = now.field; mail = now.mail; answers = now.answers; cores = put_core_in g.cores k.cores c after id y; running = k.running; waiting = k.waiting; committed = now.committed }, came_in (record g { cores = put_core g.cores c after; hearings = happening.hearing (enclaves link) c core a r ∷ g.hearings }) r z)

  hears_stays : (c : ClientId) → IsTrue (is_client_id c) → (j : ℕ) → j ≤ max_u64 → (o : Option Answered) → ((a : Answered) → o ≡ Some a → GivenIn n a) → Stays Short (n + 1) (happening.hears (enclaves link) c j o g)
  hears_stays c id j le None x = (now, λ short. u64_number j le)
  hears_stays c id j le (Some a) x = refused_if_stays (not (is_client a.client c)) (NotYours j) (happening.hears_with (enclaves link) c a (core_of g.cores c)) (λ short. u64_number j le) (hears_with_stays c id a (x a refl) (core_of g.cores c) (core_in g.cores k.cores c))

module _ (n : ℕ) (small : n + 1 ≤ MAX_EVENTS) (link : Link) (hashes : GivesHashes link) (most : ℕ) (fits : most ≤ max_u64) (g : World) (k : WorldIn n g) where
  delivers_stays : (j : ℕ) → j ≤ max_u64 → (o : Option (Sent Message)) → ((x : Sent Message) → o ≡ Some x → MailIn (n + 1) x) → Stays (Unit {0}) (n + 1) (happening.delivers (enclaves link) j o g)
  delivers_stays j le None x = (now n small link hashes g k (Unit {0}), λ short. u64_number j le)
  delivers_stays j le (Some y) x =
      let mail = x y refl in
      refused_if_stays n small link hashes g k (Unit {0}) (is_in g.lost j) (Lost j) (λ g. happening.running (enclaves link) y.to g (happening.hands (enclaves link) j y)) (λ short. u64_number j le)
      (refused_if_stays n small link hashes g k (Unit {0}) (not (is_in g.running y.to)) (NotRunning y.to) (happening.hands (enclaves link) j y) (λ short. id_number y.to mail.1)
      (replied_stays n small link hashes (record g { waiting = but j g.waiting })
      (record { field = k.field; mail = k.mail; answers = k.answers; cores = k.cores; running = k.running; waiting = all_filter (λ k. (1 ≤ k) × (k ≤ length g.messages)) (λ k. not (k == j)) g.waiting k.waiting; committed = k.committed })
      (Unit {0}) y.to mail.1 (Peer y.from y.to y.message) (value_at g.field.running y.to) refl mail))

  mail_at : (j : ℕ) (x : Sent Message) → numbered g.messages j ≡ Some x → MailIn (n + 1) x
  mail_at zero x is = absurd (none-some x is)
  mail_at (suc j) x is = all_get (MailIn (n + 1)) g.messages j x is (now n small link hashes g k (Unit {0})).mail

  given_at : (j : ℕ) (a : Answered) → numbered g.answers j ≡ Some a → GivenIn n a
  given_at zero a is = absurd (none-some a is)
  given_at (suc j) a is = all_get (GivenIn n) g.answers j a is k.answers

  core_or_new : (o : Option Core) → IfSome o CoreIn → CoreIn (unwrap_or o new_core)
  core_or_new None x = record { last = omega arith; flight = tt }
  core_or_new (Some core) x = x

  acts_stays : (e : Event) → EventIn e → Stays (IsShort most e) (n + 1) (happening.acts (enclaves link) e g)
  acts_stays (event.Begin margin limit voters) x = (now n small link hashes g k (Unit {0}), tt)
  acts_stays (event.Start zero) x = (now n small link hashes g k (Unit {0}), tt)
  acts_stays (event.Start (suc r)) x = refused_if_stays n small link hashes g k (Unit {0}) (is_in g.started (suc r)) (AlreadyStarted (suc r)) (happening.starts (enclaves link) (suc r)) (λ short. id_number (suc r) x) (starts_stays n small link hashes g k (Unit {0}) (suc r) x)
  acts_stays (event.Tick v) x = tells_stays n small link hashes g k (Unit {0}) v x Tick tt
  acts_stays (event.Deliver j) x = delivers_stays j x.1 (numbered g.messages j) (mail_at j)
  acts_stays (event.Lose j) x = loses_stays n small link hashes g k (Unit {0}) j x.1 (numbered g.messages j)
  acts_stays (event.Settle j) x = absurd x
  acts_stays (event.Crash v) x = refused_if_stays n small link hashes g k (Unit {0}) (not (is_in g.running v)) (NotRunning v) (happening.crashes (enclaves link) v) (λ short. id_number v x) (crashes_stays n small link hashes g k (Unit {0}) v)
  acts_stays (event.Save v) x = tells_stays n small link hashes g k (Unit {0}) v x Save tt
  acts_stays (event.Roll v j) x = refused_if_stays n small link hashes g k (Unit {0}) (not (is_in g.running v)) (NotRunning v) (happening.rolls (enclaves link) v j) (λ short. id_number v x.0) (rolls_stays n small link hashes g k (Unit {0}) v j x.0 x.1)
  acts_stays (event.Join v r) x = tells_stays n small link hashes g k (Unit {0}) v x.0 (Join r) x.1
  acts_stays (event.Admit v r) x = tells_stays n small link hashes g k (Unit {0}) v x.0 (Admit r) x.1
  acts_stays (event.Remove v r) x = tells_stays n small link hashes g k (Unit {0}) v x.0 (Remove r) x.1
  acts_stays (event.Ask v c number bytes) x =
      let who : IsTrue (is_client_id c && is_u64 number) = and_from (is_client_id c) (is_u64 number) x.1 (le-leb number max_u64 x.2) in
      tells_stays n small link hashes g k (Unit {0}) v x.0 (Client c number bytes) (who, handed_in c number bytes who x.3 x.4)
  acts_stays (event.Want c w) x = wants_stays n small link hashes g k (IsShortWant most w) c x.0 (unwrap_or (core_of g.cores c) new_core) (core_or_new (core_of g.cores c) (core_in g.cores k.cores c)) most fits w x.1 (λ short. short) (wanted (unwrap_or (core_of g.cores c) new_core) w) refl
  acts_stays (event.Say c v) x = says_stays n small link hashes g k (Unit {0}) c v x.0 x.1 (core_of g.cores c) (core_in g.cores k.cores c)
  acts_stays (event.Hear c j) x = hears_stays n small link hashes g k (Unit {0}) c x.0 j x.2 (numbered g.answers j) (given_at j)
  acts_stays (event.Margin v margin) x = tells_stays n small link hashes g k (Unit {0}) v x.0 (Margin margin) x.1
  acts_stays (event.Again c) x = absurd x

  -- the begin event
  begins_stays : (margin limit : ℕ) (voters : List ℕ) → EventIn (event.Begin margin limit voters) → Stays (Unit {0}) (n + 1) (happening.begins (enclaves link) limit (Ok (record { margin = margin; voters = rising voters })) g)
  begins_stays margin limit voters x =
      let c : Conf = record { margin = margin; voters = rising voters } in
      let fine : ConfIn c = begun_conf margin voters x.0 x.3 x.4 in
      let old = now n small link hashes g k (Unit {0}) in (
        record {
          field = all_started c limit (omega (arith, x.2)) fine c.voters fine.ids g.field old.field;
          mail = old.mail;
          answers = old.answers;
          cores = k.cores;
          running = fine.ids;
          waiting = k.waiting;
          committed = old.committed;
        },
        tt,
      )
    where
      all_started : (c : Conf) (limit : ℕ) → limit ≤ max_u32 → ConfIn c → (vs : List ℕ) → AreIds vs → (f : Enclaves) → FieldIn (n + 1) f → FieldIn (n + 1) (happening.starts_all (enclaves link) f c limit vs)
      all_started c limit le fine [] ids f states = states
      all_started c limit le fine (v ∷ vs) ids f states =
          all_started c limit le fine vs ids.1 (start_enclave f (Begin v c.margin limit c.voters))
          (started_in (n + 1) f (Begin v c.margin limit c.voters) states ids.0 (le, fine))

  first_stays : (margin limit : ℕ) (voters : List ℕ) → EventIn (event.Begin margin limit voters) → Stays (Unit {0}) (n + 1) (happening.begins (enclaves link) limit (conf_of margin voters) g)
  first_stays margin limit voters x =
      subst (λ r. Stays (Unit {0}) (n + 1) (happening.begins (enclaves link) limit r g)) (sym (ap (λ o. conf_or o margin voters) x.4)) (begins_stays margin limit voters x)

  -- before the group has begun, and after
  acts_in_stays : (o : Option Setup) (e : Event) → EventIn e → Stays (IsShort most e) (n + 1) (happening.acts_in (enclaves link) o e g)
  acts_in_stays (Some s) e x = acts_stays e x
  acts_in_stays None (event.Begin margin limit voters) x = first_stays margin limit voters x
  acts_in_stays None e x = (now n small link hashes g k (Unit {0}), tt)

pub happens_stays : (n : ℕ) → n + 1 ≤ MAX_EVENTS → (link : Link) → GivesHashes link → (most : ℕ) → most ≤ max_u64 → (g : World) → WorldIn n g → (e : Event) → EventIn e → Stays (IsShort most e) (n + 1) (happens (enclaves link) e g)
happens_stays n small link hashes most fits g k e x =
    acts_in_stays n small link hashes most fits (record g { past = e ∷ g.past }) (record { field = k.field; mail = k.mail; answers = k.answers; cores = k.cores; running = k.running; waiting = k.waiting; committed = k.committed }) g.setup e x

-- ---- a run
pub first_in : WorldIn 0 empty_world
first_in = record { field = record { running = λ v e is. absurd (none-some e is); history = tt }; mail = tt; answers = tt; cores = tt; running = tt; waiting = tt; committed = omega arith }

-- a world after an event is in range by one event more
pub goes_in : (n : ℕ) → n + 1 ≤ MAX_EVENTS → (link : Link) → GivesHashes link → (g : World) → WorldIn n g → (e : Event) → EventIn e → WorldIn (n + 1) (group_after g (happens (enclaves link) e g))
goes_in n small link hashes g k e x = by_happening (happens (enclaves link) e g) (happens_stays n small link hashes max_u64 (omega arith) g k e x)
  where
    by_happening : (h : Happening Message Enclaves) → Stays (IsShort max_u64 e) (n + 1) h → WorldIn (n + 1) (group_after g h)
    by_happening (Happened came h) stays = stays.0
    by_happening (Broken at f) stays = world_later n (n + 1) (omega arith) g k
    by_happening Unanswered stays = world_later n (n + 1) (omega arith) g k

pub run_in : (link : Link) → GivesHashes link → (events : List Event) → length events ≤ MAX_EVENTS → AllByRecursion EventIn events → WorldIn (length events) (run link events)
run_in link hashes events few fine = on events 0 empty_world first_in (omega arith) fine
  where
    on : (left : List Event) (n : ℕ) (w : World) → WorldIn n w → n + length left ≡ length events → AllByRecursion EventIn left → WorldIn (length events) (fold (λ w e. group_after w (happens (enclaves link) e w)) w left)
    on [] n w k all fine = subst (λ m. WorldIn m w) (omega (arith, all)) k
    on (e ∷ left) n w k all fine =
        on left (n + 1) (group_after w (happens (enclaves link) e w)) (goes_in n (omega (arith, all, few)) link hashes w k e fine.0) (omega (arith, all)) fine.1
