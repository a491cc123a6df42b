-- Every event of a run goes on so.
use Rattle.std.proofs.Common.{◌≡◌, ℕ, ◌==◌, ◌&&◌, zero, suc, not, max, Bool, true, false, Option, Some, None, Result, Ok, Err, List, [], ◌∷◌, ◌++◌, take, refl, sym, ap, subst, ◌∙◌, arith, inl, inr}
use Rattle.std.specs.Prelude.{IfSome, is_some, nat_le, unwrap_or, slice_get}
use Rattle.std.specs.List.{AllByRecursion}
use Rattle.std.proofs.lemmas.Bool.{or_cases, eqb-true, eq-eqb}
use Rattle.std.proofs.lemmas.Option.{none-some}
use Rattle.group_quorum.specs.Conf.{Conf}
use Rattle.group_quorum.specs.Voters.{fault_of, conf_or, rising, is_in, insert_rising}
use Rattle.group_quorum.proofs.Inserted.{in_inserted}
use Rattle.values.specs.declared.event.Event.{Event}
use Rattle.values.specs.declared.event.Event.TheVariants as event
use Rattle.values.specs.declared.ids.ClientId.{ClientId}
use Rattle.values.specs.declared.want.Report.{Report}
use Rattle.values.specs.declared.want.WantFault.{WantFault}
use Rattle.schedule_model.specs.Client.{Core, new_core, wanted, heard}
use Rattle.schedule_model.specs.Refusals.{GroupRefusal}
use Rattle.replica_model.specs.Path.{Path, Link}
use Rattle.replica_model.specs.Keyed.{value_at}
use Rattle.replica_model.specs.Message.{Message}
use Rattle.replica_model.specs.Replica.{Replica}
use Rattle.group_model.specs.Enclave.{Hello, Begin, Learn, HostInput, Tick, Join, Admit, Remove, Save, Roll, Connect, Margin, Client, Peer, Enclave, Called, called, started, rolls_to}
use Rattle.group_model.specs.Field.{Answers, Unreadable, Nothing}
use Rattle.group_model.specs.Group.{Setup, Sent, Answered, numbered, but, core_of, saves_of, is_client, keeps, bears, committed_in}
use Rattle.group_model.specs.Happens as happening
use Rattle.group_model.specs.Happens.{Came, Refused, Replied, Reported, Passed, Happening, Happened, Broken, Unanswered, rolled_back, happens}
use Rattle.group_model.specs.Run.{Recorded, Enclaves, World, moves, newly, start_enclave, replies, call_enclave, enclaves}
use Rattle.log_laws.proofs.Moving.{all_get}
use Rattle.log_laws.proofs.History.{all_more}
use Rattle.values.specs.declared.batch.Refusal.TheVariants.{NoState}
use Rattle.closing_laws.proofs.Tells.{IsTable}
use Rattle.closing_laws.proofs.Moved.{KnownHostInput}
use Rattle.closing_laws.proofs.Events.{KeptWorld}
use Rattle.trace_model.specs.TraceLines.{EventForm, RefusedForm, RefusedByGroup}
use Rattle.audit_laws.proofs.Passing.{passes, passes_on, at, confs_after}
use Rattle.audit_laws.proofs.Batches.{batch_forms, batch_passes}
use Rattle.audit_laws.proofs.Stepping.{Agrees, Running, AllRun, BearSame, came_forms, start, Audited, Steps, moved_runs, now_runs, without_runs, bear_after, call_tells, call_reaches, seen_fits}
use Rattle.range_laws.proofs.Confs.{or_left, or_right}

-- an event's line leaves this opened
abbrev Opens : Setup → List ℕ → Event → Type 0
Opens s opened e = (book : Path) (confs : List Conf) (rolled rolling : List ℕ) (number : ℕ) → passes (start (Some s) book confs rolled rolling) (EventForm number e ∷ []) ≡ Ok (start (Some s) book confs (rolling ++ rolled) opened)

all_in : (P : ℕ → Type 0) (ids : List ℕ) → ((v : ℕ) → is_in ids v ≡ true → P v) → AllByRecursion P ids
all_in P [] h = tt
all_in P (v ∷ ids) h = (h v (or_left (v == v) (is_in ids v) (eq-eqb v v refl)), all_in P ids (λ u m. h u (or_right (v == u) (is_in ids u) m)))

module _ (link : Link) (s : Setup) (log : Path) (e : Event) (opened : List ℕ) (opens : Opens s opened e) (g : World) (set : g.setup ≡ Some s) (runs : AllRun g.running g.field) where
  abbrev Step : Happening Message Enclaves → Type 0
  Step h = Steps s.limit log e g h

  -- the group refuses
  refuses : (refusal : GroupRefusal) → Step (Happened (Refused refusal) g)
  refuses refusal = record {
    setup_is = refl;
    back = λ a. a;
    running = runs;
    on = λ a number first_message first_answer confs rolled rolling gone bear. record {
      confs' = confs;
      rolled' = rolling ++ rolled;
      rolling' = [];
      passed = subst (λ o. passes (start o (take g.committed log) confs rolled rolling) (EventForm number e ∷ RefusedByGroup refusal ∷ []) ≡ Ok (start o (take g.committed log) confs (rolling ++ rolled) [])) (sym set)
          (passes_on (EventForm number e ∷ []) (RefusedByGroup refusal ∷ []) (start (Some s) (take g.committed log) confs rolled rolling) (start (Some s) (take g.committed log) confs (rolling ++ rolled) opened) (start (Some s) (take g.committed log) confs (rolling ++ rolled) []) (opens (take g.committed log) confs rolled rolling number) refl);
      gone_is = gone;
      bear = bear;
    };
  }

  refused_if_steps : (b : Bool) (refusal : GroupRefusal) (next : World → Happening Message Enclaves) → (b ≡ false → Step (next g)) → Step (happening.refused_if (enclaves link) b refusal g next)
  refused_if_steps true refusal next h = refuses refusal
  refused_if_steps false refusal next h = h refl

  runs_so : (v : ℕ) → not (is_in g.running v) ≡ false → Running g.field v
  runs_so v h = runs v (not_false (is_in g.running v) h)
    where
      not_false : (b : Bool) → not b ≡ false → b ≡ true
      not_false true h = refl
      not_false false h = absurd (let e : true ≡ false = h in cc)

-- an event whose line leaves nothing opened
module _ (link : Link) (s : Setup) (log : Path) (e : Event) (opens : Opens s [] e) (g : World) (set : g.setup ≡ Some s) (runs : AllRun g.running g.field) (k : KeptWorld g) where
  -- nothing is told, and what is written is a line of which the audit makes nothing
  quiet : (came : Came) (h : World) → h.setup ≡ g.setup → h.committed ≡ g.committed → h.confs ≡ g.confs → h.rolled ≡ g.rolled → AllRun h.running h.field
      → (Agrees s.limit log h.field.history → Agrees s.limit log g.field.history)
      → ((book : Path) (confs : List Conf) (rolled : List ℕ) (m a : ℕ) → passes (at s book confs rolled) (came_forms m a came) ≡ Ok (at s book confs rolled))
      → Steps s.limit log e g (Happened came h)
  quiet came h setup_is committed_is confs_is rolled_is running back silent = record {
    setup_is = setup_is;
    back = back;
    running = running;
    on = λ a number first_message first_answer confs rolled rolling gone bear. record {
      confs' = confs;
      rolled' = rolling ++ rolled;
      rolling' = [];
      passed = subst (λ o. passes (start o (take g.committed log) confs rolled rolling) (EventForm number e ∷ came_forms first_message first_answer came) ≡ Ok (start o (take h.committed log) confs (rolling ++ rolled) [])) (sym set)
          (subst (λ n. passes (start (Some s) (take g.committed log) confs rolled rolling) (EventForm number e ∷ came_forms first_message first_answer came) ≡ Ok (at s (take n log) confs (rolling ++ rolled))) (sym committed_is)
          (passes_on (EventForm number e ∷ []) (came_forms first_message first_answer came) (start (Some s) (take g.committed log) confs rolled rolling) (at s (take g.committed log) confs (rolling ++ rolled)) (at s (take g.committed log) confs (rolling ++ rolled))
          (opens (take g.committed log) confs rolled rolling number) (silent (take g.committed log) confs (rolling ++ rolled) first_message first_answer)));
      gone_is = gone ∙ sym rolled_is;
      bear = subst (BearSame confs) (sym confs_is) bear;
    };
  }

  passing : Steps s.limit log e g (Happened Passed g)
  passing = quiet Passed g refl refl refl refl runs (λ a. a) (λ book confs rolled m a. refl)

  -- a replica is called
  called_steps : (v : ℕ) (x : Enclave) (input : HostInput Message) → value_at g.field.running v ≡ Some x → KnownHostInput g.committed g.confs input
      → Steps s.limit log e g (Happened (Replied v (called link x input).call.batch) (keeps g v (called link x input).call.batch (called link x input).call.sent (moves g.field v x.replica (Some input) (called link x input))))
  called_steps v x input is known =
      let c : Called = called link x input in
      let now : Recorded = record { replica = v; before = x.replica; input = Some input; call = c.call } in
      record {
        setup_is = refl;
        back = λ a. a.1;
        running = λ u h. moved_runs g.field v x.replica (Some input) c u (runs u h);
        on = λ a number first_message first_answer confs rolled rolling gone bear. record {
          confs' = confs_after c.call.batch.members confs;
          rolled' = rolling ++ rolled;
          rolling' = [];
          passed = subst (λ o. passes (start o (take g.committed log) confs rolled rolling) (EventForm number e ∷ batch_forms v first_message first_answer c.call.batch) ≡ Ok (start o (take (max g.committed (committed_in c.call.batch)) log) (confs_after c.call.batch.members confs) (rolling ++ rolled) [])) (sym set)
              (passes_on (EventForm number e ∷ []) (batch_forms v first_message first_answer c.call.batch) (start (Some s) (take g.committed log) confs rolled rolling) (at s (take g.committed log) confs (rolling ++ rolled))
              (at s (take (max g.committed (committed_in c.call.batch)) log) (confs_after c.call.batch.members confs) (rolling ++ rolled))
              (opens (take g.committed log) confs rolled rolling number)
              (batch_passes s (rolling ++ rolled) log g.committed now (now ∷ g.field.history) confs v first_message first_answer (seen_fits s.limit log g k a.1) (call_tells s.limit log link g k v x input is known a)
              ∙ ap (λ (n : ℕ). Ok (at s (take n log) (confs_after c.call.batch.members confs) (rolling ++ rolled))) (call_reaches link g k v x input is known)));
          gone_is = gone;
          bear = bear_after c.call.batch.members confs g.confs bear;
        };
      }

  replied_steps : (v : ℕ) (input : HostInput Message) (o : Option Enclave) → value_at g.field.running v ≡ o → Running g.field v → KnownHostInput g.committed g.confs input → Steps s.limit log e g (happening.replied (enclaves link) v g (call_enclave link g.field v input o))
  replied_steps v input None is run known = absurd (none-some run.0 (sym is ∙ run.1))
  replied_steps v input (Some x) is run known = called_steps v x input is known

  tells_steps : (v : ℕ) (input : HostInput Message) → KnownHostInput g.committed g.confs input → Steps s.limit log e g (happening.tells (enclaves link) v input g)
  tells_steps v input known =
      refused_if_steps link s log e [] opens g set runs (not (is_in g.running v)) _ (happening.calls (enclaves link) v input)
      (λ h. replied_steps v input (value_at g.field.running v) refl (runs_so link s log e [] opens g set runs v h) known)

  loses_steps : (j : ℕ) (o : Option (Sent Message)) → Steps s.limit log e g (happening.loses (enclaves link) j o g)
  loses_steps j None = refuses link s log e [] opens g set runs _
  loses_steps j (Some m) =
      refused_if_steps link s log e [] opens g set runs (is_in g.lost j) _ (λ g. Happened Passed (record g { lost = j ∷ g.lost; waiting = but j g.waiting }))
      (λ h. quiet Passed (record g { lost = j ∷ g.lost; waiting = but j g.waiting }) refl refl refl refl runs (λ a. a) (λ book confs rolled m a. refl))

  wants_steps : (c : ClientId) (r : Result Core WantFault) → Steps s.limit log e g (happening.wants (enclaves link) c r g)
  wants_steps c (Err fault) = refuses link s log e [] opens g set runs _
  wants_steps c (Ok core) = quiet Passed _ refl refl refl refl runs (λ a. a) (λ book confs rolled m a. refl)

  says_steps : (c : ClientId) (v : ℕ) (o : Option (ℕ × List ℕ)) → Steps s.limit log e g (happening.says (enclaves link) c v o g)
  says_steps c v None = refuses link s log e [] opens g set runs _
  says_steps c v (Some (number, request)) = tells_steps v (Client c number request) tt

  hears_with_steps : (c : ClientId) (a : Answered) (o : Option Core) → Steps s.limit log e g (happening.hears_with (enclaves link) c a o g)
  hears_with_steps c a None = passing
  hears_with_steps c a (Some core) = reported (heard core a.number a.answer)
    where
      silent : (o : Option Report) → (book : Path) (confs : List Conf) (rolled : List ℕ) (m n : ℕ) → passes (at s book confs rolled) (came_forms m n (happening.came_of (enclaves link) c o)) ≡ Ok (at s book confs rolled)
      silent None book confs rolled m n = refl
      silent (Some report) book confs rolled m n = refl

      reported : (x : Core × Option Report) → Steps s.limit log e g (happening.hears_report (enclaves link) c core a x g)
      reported (after, report) = quiet _ _ refl refl refl refl runs (λ a. a) (silent report)

  hears_steps : (c : ClientId) (j : ℕ) (o : Option Answered) → Steps s.limit log e g (happening.hears (enclaves link) c j o g)
  hears_steps c j None = refuses link s log e [] opens g set runs _
  hears_steps c j (Some a) =
      refused_if_steps link s log e [] opens g set runs (not (is_client a.client c)) _ (happening.hears_with (enclaves link) c a (core_of g.cores c)) (λ h. hears_with_steps c a (core_of g.cores c))

  crashes_steps : (v : ℕ) → Steps s.limit log e g (happening.crashes (enclaves link) v g)
  crashes_steps v = quiet Passed _ refl refl refl refl (λ u h. without_runs g.field v g.running u runs h) (λ a. a) (λ book confs rolled m a. refl)

  -- a learner starts, and links are made
  abbrev ends : ℕ → Enclaves → Happening Message Enclaves
  ends x f = Happened Passed (record g { running = insert_rising x g.running; started = x ∷ g.started; field = f })

  connected_steps : (x : ℕ) (rs : List ℕ) (f : Enclaves) → AllByRecursion (Running f) rs → AllRun (insert_rising x g.running) f → (Agrees s.limit log f.history → Agrees s.limit log g.field.history)
      → Steps s.limit log e g (happening.connected (enclaves link) x rs f (λ f. Happened Passed (record g { running = insert_rising x g.running; started = x ∷ g.started; field = f })))
  connected_steps x [] f all running back = quiet Passed _ refl refl refl refl running back (λ book confs rolled m a. refl)
  connected_steps x (r ∷ rs) f all running back = linked (value_at f.running r) refl (λ f' all' running' back'. connected_steps x rs f' all' running' back')
    where
      linked : (o : Option Enclave) → value_at f.running r ≡ o
          → ((f' : Enclaves) → AllByRecursion (Running f') rs → AllRun (insert_rising x g.running) f' → (Agrees s.limit log f'.history → Agrees s.limit log g.field.history) → Steps s.limit log e g (happening.connected (enclaves link) x rs f' (ends x)))
          → Steps s.limit log e g (elim (call_enclave link f r (Connect x) o) [ Answers batch sent h ↦ happening.connected (enclaves link) x rs h (ends x) | Unreadable at f ↦ Broken at f | Nothing ↦ Unanswered ])
      linked None is rest = absurd (none-some all.0.0 (sym is ∙ all.0.1))
      linked (Some y) is rest =
          let c : Called = called link y (Connect x) in
          rest (moves f r y.replica (Some (Connect x)) c)
          (all_more (Running f) (Running (moves f r y.replica (Some (Connect x)) c)) (λ v h. moved_runs f r y.replica (Some (Connect x)) c v h) rs all.1)
          (λ v h. moved_runs f r y.replica (Some (Connect x)) c v (running v h))
          (λ a. back a.1)

  starts_steps : (x : ℕ) → Steps s.limit log e g (happening.starts (enclaves link) x g)
  starts_steps x =
      let f : Enclaves = start_enclave g.field (Learn x g.running) in
      let run : (v : ℕ) → is_in g.running v ≡ true → Running f v = λ v h. moved_runs g.field x (started (Learn x g.running)).replica None (newly (started (Learn x g.running))) v (runs v h) in
      connected_steps x g.running f (all_in (Running f) g.running run)
      (λ v h. elim (in_inserted x g.running v h) [
        | inl now ↦ subst (Running f) now (now_runs g.field x (started (Learn x g.running)).replica None (newly (started (Learn x g.running))))
        | inr old ↦ run v old
      ])
      (λ a. a.1)

module _ (link : Link) (s : Setup) (log : Path) (e : Event) (opens : Opens s [] e) (g : World) (set : g.setup ≡ Some s) (runs : AllRun g.running g.field) (k : KeptWorld g) where
  -- what waits does not count
  from_waiting : (waiting : List ℕ) (x : Happening Message Enclaves) → Steps s.limit log e (record g { waiting = waiting }) x → Steps s.limit log e g x
  from_waiting waiting (Happened came h) r = record { setup_is = r.setup_is; back = r.back; running = r.running; on = r.on }
  from_waiting waiting (Broken at f) r = r
  from_waiting waiting Unanswered r = r

  delivers_steps : (j : ℕ) (o : Option (Sent Message)) → ((m : Sent Message) → o ≡ Some m → IsTable g.committed g.confs m.message.names.path) → Steps s.limit log e g (happening.delivers (enclaves link) j o g)
  delivers_steps j None good = refuses link s log e [] opens g set runs _
  delivers_steps j (Some m) good =
      refused_if_steps link s log e [] opens g set runs (is_in g.lost j) _ (λ g. happening.running (enclaves link) m.to g (happening.hands (enclaves link) j m))
      (λ h. refused_if_steps link s log e [] opens g set runs (not (is_in g.running m.to)) _ (happening.hands (enclaves link) j m)
      (λ h. from_waiting (but j g.waiting) (happening.hands (enclaves link) j m g) (replied_steps link s log e opens (record g { waiting = but j g.waiting }) set runs k m.to (Peer m.from m.to m.message) (value_at g.field.running m.to) refl (runs_so link s log e [] opens g set runs m.to h) (good m refl))))

-- a roll
module _ (link : Link) (s : Setup) (log : Path) (v j : ℕ) (g : World) (set : g.setup ≡ Some s) (runs : AllRun g.running g.field) (k : KeptWorld g) where
  abbrev e : Event
  e = event.Roll v j

  opens : Opens s (v ∷ []) e
  opens b c r o n = refl

  rolls_steps : Steps s.limit log (event.Roll v j) g (happening.running (enclaves link) v g (happening.rolls (enclaves link) v j))
  rolls_steps =
      refused_if_steps link s log e (v ∷ []) opens g set runs (not (is_in g.running v)) _ (happening.rolls (enclaves link) v j)
      (λ h. refused_if_steps link s log e (v ∷ []) opens g set runs (not (nat_le j (saves_of g.saves v))) _ (λ g. happening.rolled (enclaves link) v g ((enclaves link).call g.field v (Roll j)))
      (λ _. by_value (value_at g.field.running v) refl (runs_so link s log e (v ∷ []) opens g set runs v h)))
    where
      same_seen : g.committed ≡ max g.committed 0
      same_seen = omega arith

      put_back : (x : Enclave) (o : Option Replica) → Steps s.limit log e g (happening.rolled (enclaves link) v g (replies g.field v x.replica (Roll j) (rolls_to x j o)))
      put_back x None = record {
        setup_is = refl;
        back = λ a. a.1;
        running = λ u h. moved_runs g.field v x.replica (Some (Roll j)) (rolls_to x j None) u (runs u h);
        on = λ a number first_message first_answer confs rolled rolling gone bear. record {
          confs' = confs;
          rolled' = rolling ++ rolled;
          rolling' = [];
          passed = subst (λ o. passes (start o (take g.committed log) confs rolled rolling) (EventForm number e ∷ RefusedForm (NoState j) ∷ []) ≡ Ok (start o (take (max g.committed 0) log) confs (rolling ++ rolled) [])) (sym set)
              (ap (λ (n : ℕ). Ok (at s (take n log) confs (rolling ++ rolled))) same_seen);
          gone_is = gone;
          bear = bear;
        };
      }
      put_back x (Some y) = record {
        setup_is = refl;
        back = λ a. a.1;
        running = λ u h. moved_runs g.field v x.replica (Some (Roll j)) (rolls_to x j (Some y)) u (runs u h);
        on = λ a number first_message first_answer confs rolled rolling gone bear. record {
          confs' = confs;
          rolled' = rolling ++ rolled;
          rolling' = v ∷ [];
          passed = subst (λ o. passes (start o (take g.committed log) confs rolled rolling) (EventForm number e ∷ []) ≡ Ok (start o (take (max g.committed 0) log) confs (rolling ++ rolled) (v ∷ []))) (sym set)
              (ap (λ (n : ℕ). Ok (start (Some s) (take n log) confs (rolling ++ rolled) (v ∷ []))) same_seen);
          gone_is = ap (λ (vs : List ℕ). v ∷ vs) gone;
          bear = bear;
        };
      }

      by_value : (o : Option Enclave) → value_at g.field.running v ≡ o → Running g.field v → Steps s.limit log e g (happening.rolled (enclaves link) v g (call_enclave link g.field v (Roll j) o))
      by_value None is run = absurd (none-some run.0 (sym is ∙ run.1))
      by_value (Some x) is run = put_back x (slice_get x.saved j)

module _ (link : Link) (s : Setup) (log : Path) (g : World) (set : g.setup ≡ Some s) (runs : AllRun g.running g.field) (k : KeptWorld g) where
  mail_at : (j : ℕ) (m : Sent Message) → numbered g.messages j ≡ Some m → IsTable g.committed g.confs m.message.names.path
  mail_at zero m is = absurd (none-some m is)
  mail_at (suc j) m is = all_get (λ (m : Sent Message). IsTable g.committed g.confs m.message.names.path) g.messages j m is k.standing.mail

  abbrev IsPlain : Event → Type 0
  IsPlain (event.Begin margin limit voters) = ⊥
  IsPlain e = Unit {0}

  acts_steps : (e : Event) → IsPlain e → Steps s.limit log e g (happening.acts (enclaves link) e g)
  acts_steps (event.Begin margin limit voters) plain = absurd plain
  acts_steps (event.Start zero) plain = passing link s log _ (λ b c r o n. refl) g set runs k
  acts_steps (event.Start (suc x)) plain = refused_if_steps link s log _ [] (λ b c r o n. refl) g set runs (is_in g.started (suc x)) _ (happening.starts (enclaves link) (suc x)) (λ h. starts_steps link s log _ (λ b c r o n. refl) g set runs k (suc x))
  acts_steps (event.Tick v) plain = tells_steps link s log _ (λ b c r o n. refl) g set runs k v Tick tt
  acts_steps (event.Deliver j) plain = delivers_steps link s log _ (λ b c r o n. refl) g set runs k j (numbered g.messages j) (mail_at j)
  acts_steps (event.Lose j) plain = loses_steps link s log _ (λ b c r o n. refl) g set runs k j (numbered g.messages j)
  acts_steps (event.Settle n) plain = passing link s log _ (λ b c r o n. refl) g set runs k
  acts_steps (event.Crash v) plain = refused_if_steps link s log _ [] (λ b c r o n. refl) g set runs (not (is_in g.running v)) _ (happening.crashes (enclaves link) v) (λ h. crashes_steps link s log _ (λ b c r o n. refl) g set runs k v)
  acts_steps (event.Save v) plain = tells_steps link s log _ (λ b c r o n. refl) g set runs k v Save tt
  acts_steps (event.Roll v j) plain = rolls_steps link s log v j g set runs k
  acts_steps (event.Join v x) plain = tells_steps link s log _ (λ b c r o n. refl) g set runs k v (Join x) tt
  acts_steps (event.Admit v x) plain = tells_steps link s log _ (λ b c r o n. refl) g set runs k v (Admit x) tt
  acts_steps (event.Remove v x) plain = tells_steps link s log _ (λ b c r o n. refl) g set runs k v (Remove x) tt
  acts_steps (event.Ask v c n request) plain = tells_steps link s log _ (λ b c r o n. refl) g set runs k v (Client c n request) tt
  acts_steps (event.Want c w) plain = wants_steps link s log _ (λ b c r o n. refl) g set runs k c (wanted (unwrap_or (core_of g.cores c) new_core) w)
  acts_steps (event.Say c v) plain = says_steps link s log _ (λ b c r o n. refl) g set runs k c v (happening.said_if_any (enclaves link) (core_of g.cores c))
  acts_steps (event.Hear c j) plain = hears_steps link s log _ (λ b c r o n. refl) g set runs k c j (numbered g.answers j)
  acts_steps (event.Margin v m) plain = tells_steps link s log _ (λ b c r o n. refl) g set runs k v (Margin m) tt
  acts_steps (event.Again c) plain = passing link s log _ (λ b c r o n. refl) g set runs k

-- ---- any event that a schedule has there
abbrev pub Fits : Option Setup → Event → Type 0
Fits None (event.Begin margin limit voters) = fault_of margin voters ≡ None
Fits None e = ⊥
Fits (Some s) (event.Begin margin limit voters) = ⊥
Fits (Some s) e = Unit {0}

-- all recorded calls agree with the log, under the limit that the group has
pub record Lawful (limit : ℕ) (log : Path) (w : World) : Type 0 where
  pub agrees : Agrees limit log w.field.history
  pub limit_is : IfSome w.setup (λ s. s.limit ≡ limit)

pub record Moved (limit : ℕ) (log : Path) (e : Event) (g : World) (came : Came) (h : World) : Type 0 where
  pub back : Lawful limit log h → Lawful limit log g
  pub begun : is_some h.setup ≡ true
  pub running : AllRun h.running h.field
  pub on : Lawful limit log h → (number first_message first_answer : ℕ) (confs : List Conf) (rolled rolling : List ℕ) → rolling ++ rolled ≡ g.rolled → BearSame confs g.confs
      → Audited log g.setup h.setup g.committed h.committed g.confs h.confs g.rolled h.rolled (EventForm number e ∷ came_forms first_message first_answer came) confs rolled rolling

abbrev pub Moves : ℕ → Path → Event → World → Happening Message Enclaves → Type 0
Moves limit log e g (Happened came h) = Moved limit log e g came h
Moves limit log e g (Broken at f) = ⊥
Moves limit log e g Unanswered = ⊥

module _ (link : Link) (limit : ℕ) (log : Path) where
  -- a group that has begun
  module _ (s : Setup) (e : Event) (g : World) (set : g.setup ≡ Some s) where
    limit_of_set : (o : Option Setup) → o ≡ Some s → IfSome o (λ t. t.limit ≡ limit) → s.limit ≡ limit
    limit_of_set o is h = subst (λ x. IfSome x (λ t. t.limit ≡ limit)) is h

    moves_of : (x : Happening Message Enclaves) → Steps s.limit log e g x → Moves limit log e g x
    moves_of (Happened came h) r = record {
      back = λ a.
          let is : s.limit ≡ limit = limit_of_set h.setup (r.setup_is ∙ set) a.limit_is in
          record {
            agrees = subst (λ n. Agrees n log g.field.history) is (r.back (subst (λ n. Agrees n log h.field.history) (sym is) a.agrees));
            limit_is = subst (λ o. IfSome o (λ t. t.limit ≡ limit)) r.setup_is a.limit_is;
          };
      begun = ap is_some (r.setup_is ∙ set);
      running = r.running;
      on = λ a number first_message first_answer confs rolled rolling gone bear.
          let is : s.limit ≡ limit = limit_of_set h.setup (r.setup_is ∙ set) a.limit_is in
          subst (λ o. Audited log g.setup o g.committed h.committed g.confs h.confs g.rolled h.rolled (EventForm number e ∷ came_forms first_message first_answer came) confs rolled rolling) (sym r.setup_is)
          (r.on (subst (λ n. Agrees n log h.field.history) (sym is) a.agrees) number first_message first_answer confs rolled rolling gone bear);
    }
    moves_of (Broken at f) r = r
    moves_of Unanswered r = r

  -- the begin event
  module _ (c : Conf) (most : ℕ) where
    abbrev hello : ℕ → Hello
    hello v = Begin v c.margin most c.voters

    abbrev later : Enclaves → List ℕ → Enclaves
    later f vs = happening.starts_all (enclaves link) f c most vs

    later_back : (vs : List ℕ) (f : Enclaves) → Agrees limit log (later f vs).history → Agrees limit log f.history
    later_back [] f a = a
    later_back (v ∷ vs) f a = (later_back vs (start_enclave f (hello v)) a).1

    later_runs : (vs : List ℕ) (f : Enclaves) (u : ℕ) → Running f u → Running (later f vs) u
    later_runs [] f u h = h
    later_runs (v ∷ vs) f u h = later_runs vs (start_enclave f (hello v)) u (moved_runs f v (started (hello v)).replica None (newly (started (hello v))) u h)

    all_started : (vs : List ℕ) (f : Enclaves) → AllRun vs (later f vs)
    all_started [] f u h = absurd (let e : false ≡ true = h in cc)
    all_started (v ∷ vs) f u h = elim (or_cases (v == u) (is_in vs u) h) [
      | inl now ↦ subst (Running (later f (v ∷ vs))) (eqb-true v u now) (later_runs vs (start_enclave f (hello v)) v (now_runs f v (started (hello v)).replica None (newly (started (hello v)))))
      | inr rest ↦ all_started vs (start_enclave f (hello v)) u rest
    ]

  begins_moves : (margin most : ℕ) (voters : List ℕ) (g : World) → g.setup ≡ None → Moves limit log (event.Begin margin most voters) g (happening.begins (enclaves link) most (Ok (record { margin = margin; voters = rising voters })) g)
  begins_moves margin most voters g set =
      let c : Conf = record { margin = margin; voters = rising voters } in
      record {
        back = λ a. record { agrees = later_back c most c.voters g.field a.agrees; limit_is = subst (λ o. IfSome o (λ t. t.limit ≡ limit)) (sym set) tt };
        begun = refl;
        running = all_started c most c.voters g.field;
        on = λ a number first_message first_answer confs rolled rolling gone bear. record {
          confs' = c ∷ confs;
          rolled' = rolling ++ rolled;
          rolling' = [];
          passed = subst (λ o. passes (start o (take g.committed log) confs rolled rolling) (EventForm number (event.Begin margin most voters) ∷ []) ≡ Ok (start (Some (record { limit = most; first = c })) (take g.committed log) (c ∷ confs) (rolling ++ rolled) [])) (sym set) refl;
          gone_is = gone;
          bear = λ rolled. ap (λ b. bears rolled c && b) (bear rolled);
        };
      }

  plain_of : (s : Setup) (g : World) (set : g.setup ≡ Some s) (runs : AllRun g.running g.field) (k : KeptWorld g) (e : Event) → Fits (Some s) e → IsPlain link s log g set runs k e
  plain_of s g set runs k (event.Begin margin limit voters) h = h
  plain_of s g set runs k e h = tt

  acts_in_moves : (o : Option Setup) (e : Event) (g : World) → g.setup ≡ o → Fits o e → AllRun g.running g.field → KeptWorld g → Moves limit log e g (happening.acts_in (enclaves link) o e g)
  acts_in_moves None (event.Begin margin most voters) g set fits runs k =
      subst (λ r. Moves limit log (event.Begin margin most voters) g (happening.begins (enclaves link) most r g)) (sym (ap (λ o. conf_or o margin voters) fits)) (begins_moves margin most voters g set)
  acts_in_moves None e g set fits runs k = absurd fits
  acts_in_moves (Some s) e g set fits runs k = moves_of s e g set (happening.acts (enclaves link) e g) (acts_steps link s log g set runs k e (plain_of s g set runs k e fits))

  -- what is behind the group does not count
  from_past : (past : List Event) (e : Event) (g : World) (x : Happening Message Enclaves) → Moves limit log e (record g { past = past }) x → Moves limit log e g x
  from_past past e g (Happened came h) r = record { back = λ a. let b = r.back a in record { agrees = b.agrees; limit_is = b.limit_is }; begun = r.begun; running = r.running; on = r.on }
  from_past past e g (Broken at f) r = r
  from_past past e g Unanswered r = r

  pub happens_moves : (e : Event) (g : World) → Fits g.setup e → AllRun g.running g.field → KeptWorld g → Moves limit log e g (happens (enclaves link) e g)
  happens_moves e g fits runs k = from_past (e ∷ g.past) e g (happens (enclaves link) e g) (acts_in_moves g.setup e (record g { past = e ∷ g.past }) refl fits runs k)
