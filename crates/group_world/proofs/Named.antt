-- What was handed over up to a later moment was handed over up to an earlier one: a history only grows.
use Rattle.std.proofs.Common.{refl, sym, subst, ◌≡◌, ℕ, zero, suc, nat_le, not, Bool, true, false, List, [], ◌∷◌, is_none, is_some, unwrap_or, Option, Some, None, Result, Ok, Err}
use Rattle.std.proofs.lemmas.Bool.{cond_both}
use Rattle.group_quorum.specs.Conf.{Conf}
use Rattle.group_quorum.specs.Voters.{conf_of, is_in}
use Rattle.group_quorum.specs.declared.ConfigFault.{ConfigFault}
use Rattle.values.specs.declared.event.Event.{Event}
use Rattle.values.specs.declared.event.Event.TheVariants as event
use Rattle.values.specs.declared.ids.ClientId.{ClientId}
use Rattle.values.specs.declared.want.WantFault.{WantFault}
use Rattle.record_cutting.specs.Lines.{Record}
use Rattle.schedule_model.specs.Client.{Core, new_core, wanted}
use Rattle.schedule_model.specs.Quantities.{Quantity}
use Rattle.schedule_model.specs.Reading.{RecordFault}
use Rattle.schedule_model.specs.Records.{event_of}
use Rattle.schedule_model.specs.Refusals.{GroupRefusal, AlreadyStarted, Lost, NoSuchState, NotRunning, NotYours}
use Rattle.schedule_model.specs.Written.{Written, On, Off, all_written, follow, last_of, onto}
use Rattle.replica_model.specs.Keyed.{value_at}
use Rattle.replica_model.specs.Linked.{sha_link}
use Rattle.replica_model.specs.Message.{Message}
use Rattle.group_model.specs.Enclave.{Begin, Learn, Hello, HostInput, Tick, Client, Join, Admit, Remove, Save, Roll, Connect, Margin, Peer, Enclave}
use Rattle.group_model.specs.Field.{Reply, Answers, Unreadable, Nothing}
use Rattle.group_model.specs.Group.{Answered, Group, Sent, Setup, but, core_of, is_client, keeps, next_message, numbered, saves_of}
use Rattle.group_model.specs.Happens as happening
use Rattle.group_model.specs.Happens.{Came, Happening, Happened, Broken, Unanswered, Passed, acts, acts_first, acts_in, connected, happens, starts_all}
use Rattle.group_model.specs.Run.{Enclaves, call_enclave}
use Rattle.trace_model.specs.Limits.{passed_after, passed_before}
use Rattle.trace_model.specs.Trace.{Playing, counted, expanded, happened, happened_text, played, record_played, records_played, settled, tried, unless_failed, within_limits}
use Rattle.trace_model.specs.Trace as trace
use Rattle.group_world.specs.Failing.{one_call, one_taken, through}
use Rattle.group_world.specs.Meanings.{Meaning, OfEnclaves, OfContents, Until, MessageOf, StateOf, model_of, AreNamed}
use Rattle.group_world.proofs.EventLines.{happened_stands}

-- ---- one ask

-- what an answer leaves was named so; where there is none, what stood before
abbrev pub IsNamedOn : (m : Meaning) → StateOf m → Reply (MessageOf m) (StateOf m) → Type 0
IsNamedOn m f (Answers batch sent h) = AreNamed m h
IsNamedOn m f (Unreadable at h) = AreNamed m h
IsNamedOn m f Nothing = AreNamed m f

enclave_before : (f : Enclaves) (id : ℕ) (input : HostInput Message) (o : Option Enclave) → IsNamedOn OfEnclaves f (call_enclave sha_link f id input o) → AreNamed OfEnclaves f
unfolding AreNamed
enclave_before f id input None named = named
enclave_before f id input (Some e) named = named.1

through_before : (m : Meaning) (n : ℕ) (s : StateOf (Until m)) (reply : Reply (MessageOf m) (StateOf m)) → IsNamedOn (Until m) s (through (model_of m) n s reply) → IsNamedOn m s.inner reply
unfolding AreNamed
through_before m n s (Answers batch sent h) named = named
through_before m n s (Unreadable at h) named = named
through_before m n s Nothing named = named

until_before : (m : Meaning) (n : ℕ) (s : StateOf (Until m)) (id : ℕ) (input : HostInput (MessageOf m)) → (IsNamedOn m s.inner ((model_of m).call s.inner id input) → AreNamed m s.inner)
    → IsNamedOn (Until m) s (one_call (model_of m) n s id input) → AreNamed m s.inner
unfolding AreNamed
until_before m zero s id input inner named = named
until_before m (suc n) s id input inner named = inner (through_before m n s ((model_of m).call s.inner id input) named)

pub call_before : (m : Meaning) (f : StateOf m) (id : ℕ) (input : HostInput (MessageOf m)) → IsNamedOn m f ((model_of m).call f id input) → AreNamed m f
unfolding model_of AreNamed
call_before OfEnclaves f id input named = enclave_before f id input (value_at f.running id) named
call_before OfContents f id input named = tt
call_before (Until m) f id input named = until_before m f.left f id input (call_before m f.inner id input) named

one_before : (m : Meaning) (n : ℕ) (s : StateOf (Until m)) (f : StateOf m) → (AreNamed m f → AreNamed m s.inner) → AreNamed (Until m) (one_taken (model_of m) n s f) → AreNamed m s.inner
unfolding AreNamed
one_before m zero s f inner named = named
one_before m (suc n) s f inner named = inner named

pub start_before : (m : Meaning) (f : StateOf m) (hello : Hello) → AreNamed m ((model_of m).start f hello) → AreNamed m f
unfolding model_of AreNamed
start_before OfEnclaves f hello named = named.1
start_before OfContents f hello named = tt
start_before (Until m) f hello named = one_before m f.left f ((model_of m).start f.inner hello) (start_before m f.inner hello) named

pub stop_before : (m : Meaning) (f : StateOf m) (id : ℕ) → AreNamed m ((model_of m).stop f id) → AreNamed m f
unfolding model_of AreNamed
stop_before OfEnclaves f id named = named
stop_before OfContents f id named = tt
stop_before (Until m) f id named = one_before m f.left f ((model_of m).stop f.inner id) (stop_before m f.inner id) named

-- ---- an event

module _ (m : Meaning) where
  abbrev G : Type 0
  G = Group (MessageOf m) (StateOf m)

  abbrev H : Type 0
  H = Happening (MessageOf m) (StateOf m)

  -- what was handed over in a happening was named so; where nothing was answered, what was before
  abbrev pub IsNamedUpTo : StateOf m → H → Type 0
  IsNamedUpTo f (Happened came g) = AreNamed m g.field
  IsNamedUpTo f (Broken at h) = AreNamed m h
  IsNamedUpTo f Unanswered = AreNamed m f

  -- it was then so before
  abbrev Before : StateOf m → H → Type 0
  Before f x = IsNamedUpTo f x → AreNamed m f

  refused_if-before : (b : Bool) (refusal : GroupRefusal) (g : G) (next : G → H) → Before g.field (next g) → Before g.field (happening.refused_if (model_of m) b refusal g next)
  refused_if-before true refusal g next h = λ named. named
  refused_if-before false refusal g next h = h

  running-before : (r : ℕ) (g : G) (next : G → H) → Before g.field (next g) → Before g.field (happening.running (model_of m) r g next)
  running-before r g next h = refused_if-before (not (is_in g.running r)) (NotRunning r) g next h

  replied-on : (r : ℕ) (g : G) (reply : Reply (MessageOf m) (StateOf m)) → IsNamedUpTo g.field (happening.replied (model_of m) r g reply) → IsNamedOn m g.field reply
  replied-on r g (Answers batch sent f) named = named
  replied-on r g (Unreadable at f) named = named
  replied-on r g Nothing named = named

  calls-before : (r : ℕ) (input : HostInput (MessageOf m)) (g : G) → Before g.field (happening.calls (model_of m) r input g)
  calls-before r input g = λ named. call_before m g.field r input (replied-on r g ((model_of m).call g.field r input) named)

  tells-before : (r : ℕ) (input : HostInput (MessageOf m)) (g : G) → Before g.field (happening.tells (model_of m) r input g)
  tells-before r input g = running-before r g (happening.calls (model_of m) r input) (calls-before r input g)

  all-before : (f : StateOf m) (c : Conf) (limit : ℕ) (vs : List ℕ) → AreNamed m (starts_all (model_of m) f c limit vs) → AreNamed m f
  all-before f c limit [] named = named
  all-before f c limit (v ∷ vs) named =
      start_before m f (Begin v c.margin limit c.voters) (all-before ((model_of m).start f (Begin v c.margin limit c.voters)) c limit vs named)

  begins-before : (limit : ℕ) (c : Result Conf ConfigFault) (g : G) → Before g.field (happening.begins (model_of m) limit c g)
  begins-before limit (Err fault) g = λ named. named
  begins-before limit (Ok c) g = λ named. all-before g.field c limit c.voters named

  linked-on : (x r : ℕ) (rs : List ℕ) (f base : StateOf m) (next : StateOf m → H) (reply : Reply (MessageOf m) (StateOf m))
      → ((h : StateOf m) → (AreNamed m h → AreNamed m base) → Before base (connected (model_of m) x rs h next)) → (IsNamedOn m f reply → AreNamed m f) → (AreNamed m f → AreNamed m base)
      → IsNamedUpTo base (elim reply [ Answers batch sent g ↦ connected (model_of m) x rs g next | Unreadable at g ↦ Broken at g | Nothing ↦ Unanswered ]) → AreNamed m base
  linked-on x r rs f base next (Answers batch sent g) rest once since named = rest g (λ on. since (once on)) named
  linked-on x r rs f base next (Unreadable at g) rest once since named = since (once named)
  linked-on x r rs f base next Nothing rest once since named = named

  connected-before : (x : ℕ) (ids : List ℕ) (f base : StateOf m) (next : StateOf m → H) → ((h : StateOf m) → (AreNamed m h → AreNamed m base) → Before base (next h)) → (AreNamed m f → AreNamed m base)
      → Before base (connected (model_of m) x ids f next)
  connected-before x [] f base next last since = last f since
  connected-before x (r ∷ rs) f base next last since =
      linked-on x r rs f base next ((model_of m).call f r (Connect x)) (λ h later. connected-before x rs h base next last later) (call_before m f r (Connect x)) since

  starts-before : (r : ℕ) (g : G) → Before g.field (happening.starts_new (model_of m) r g)
  starts-before zero g = λ named. named
  starts-before (suc k) g =
      refused_if-before (is_in g.started (suc k)) (AlreadyStarted (suc k)) g (happening.starts (model_of m) (suc k))
      (connected-before (suc k) g.running ((model_of m).start g.field (Learn (suc k) g.running)) g.field _ (λ h since. since) (start_before m g.field (Learn (suc k) g.running)))

  delivers-before : (k : ℕ) (o : Option (Sent (MessageOf m))) (g : G) → Before g.field (happening.delivers (model_of m) k o g)
  delivers-before k None g = λ named. named
  delivers-before k (Some s) g =
      refused_if-before (is_in g.lost k) (Lost k) g (λ g. happening.running (model_of m) s.to g (happening.hands (model_of m) k s))
      (running-before s.to g (happening.hands (model_of m) k s) (calls-before s.to (Peer s.from s.to s.message) (record g { waiting = but k g.waiting })))

  loses-before : (k : ℕ) (o : Option (Sent (MessageOf m))) (g : G) → Before g.field (happening.loses (model_of m) k o g)
  loses-before k None g = λ named. named
  loses-before k (Some s) g =
      refused_if-before (is_in g.lost k) (Lost k) g (λ g. Happened Passed (record g { lost = k ∷ g.lost; waiting = but k g.waiting })) (λ named. named)

  rolled-on : (r : ℕ) (g : G) (reply : Reply (MessageOf m) (StateOf m)) → IsNamedUpTo g.field (happening.rolled (model_of m) r g reply) → IsNamedOn m g.field reply
  rolled-on r g (Answers batch sent f) named =
      let h : G = keeps g r batch sent f in
      cond_both (is_none batch.refused) (record h { rolled = r ∷ h.rolled }) h (λ (k : G). AreNamed m k.field → AreNamed m f) (λ so n. n) (λ not_so n. n) named
  rolled-on r g (Unreadable at f) named = named
  rolled-on r g Nothing named = named

  rolls-before : (r k : ℕ) (g : G) → Before g.field (happening.rolls (model_of m) r k g)
  rolls-before r k g =
      refused_if-before (not (nat_le k (saves_of g.saves r))) (NoSuchState k) g (λ g. happening.rolled (model_of m) r g ((model_of m).call g.field r (Roll k)))
      (λ named. call_before m g.field r (Roll k) (rolled-on r g ((model_of m).call g.field r (Roll k)) named))

  wants-before : (c : ClientId) (r : Result Core WantFault) (g : G) → Before g.field (happening.wants (model_of m) c r g)
  wants-before c (Err fault) g = λ named. named
  wants-before c (Ok core) g = λ named. named

  says-before : (c : ClientId) (r : ℕ) (o : Option (ℕ × List ℕ)) (g : G) → Before g.field (happening.says (model_of m) c r o g)
  says-before c r None g = λ named. named
  says-before c r (Some (number, request)) g = tells-before r (Client c number request) g

  heard-before : (c : ClientId) (a : Answered) (o : Option Core) (g : G) → Before g.field (happening.hears_with (model_of m) c a o g)
  heard-before c a None g = λ named. named
  heard-before c a (Some core) g = λ named. named

  hears-before : (c : ClientId) (k : ℕ) (o : Option Answered) (g : G) → Before g.field (happening.hears (model_of m) c k o g)
  hears-before c k None g = λ named. named
  hears-before c k (Some a) g =
      refused_if-before (not (is_client a.client c)) (NotYours k) g (happening.hears_with (model_of m) c a (core_of g.cores c)) (heard-before c a (core_of g.cores c) g)

  acts-before : (e : Event) (g : G) → Before g.field (acts (model_of m) e g)
  acts-before (event.Begin margin limit voters) g = λ named. named
  acts-before (event.Start r) g = starts-before r g
  acts-before (event.Tick r) g = tells-before r Tick g
  acts-before (event.Deliver k) g = delivers-before k (numbered g.messages k) g
  acts-before (event.Lose k) g = loses-before k (numbered g.messages k) g
  acts-before (event.Settle n) g = λ named. named
  acts-before (event.Crash r) g = running-before r g (happening.crashes (model_of m) r) (stop_before m g.field r)
  acts-before (event.Save r) g = tells-before r Save g
  acts-before (event.Roll r k) g = running-before r g (happening.rolls (model_of m) r k) (rolls-before r k g)
  acts-before (event.Join r x) g = tells-before r (Join x) g
  acts-before (event.Admit r x) g = tells-before r (Admit x) g
  acts-before (event.Remove r x) g = tells-before r (Remove x) g
  acts-before (event.Ask r c n request) g = tells-before r (Client c n request) g
  acts-before (event.Want c w) g = wants-before c (wanted (unwrap_or (core_of g.cores c) new_core) w) g
  acts-before (event.Say c r) g = says-before c r (happening.said_if_any (model_of m) (core_of g.cores c)) g
  acts-before (event.Hear c k) g = hears-before c k (numbered g.answers k) g
  acts-before (event.Margin r n) g = tells-before r (Margin n) g
  acts-before (event.Again c) g = λ named. named

  first-before : (e : Event) (g : G) → Before g.field (acts_first (model_of m) e g)
  first-before (event.Begin margin limit voters) g = begins-before limit (conf_of margin voters) g
  first-before (event.Start r) g = λ named. named
  first-before (event.Tick r) g = λ named. named
  first-before (event.Deliver k) g = λ named. named
  first-before (event.Lose k) g = λ named. named
  first-before (event.Settle n) g = λ named. named
  first-before (event.Crash r) g = λ named. named
  first-before (event.Save r) g = λ named. named
  first-before (event.Roll r k) g = λ named. named
  first-before (event.Join r x) g = λ named. named
  first-before (event.Admit r x) g = λ named. named
  first-before (event.Remove r x) g = λ named. named
  first-before (event.Ask r c n request) g = λ named. named
  first-before (event.Want c w) g = λ named. named
  first-before (event.Say c r) g = λ named. named
  first-before (event.Hear c k) g = λ named. named
  first-before (event.Margin r n) g = λ named. named
  first-before (event.Again c) g = λ named. named

  in-before : (o : Option Setup) (e : Event) (g : G) → Before g.field (acts_in (model_of m) o e g)
  in-before None e g = first-before e g
  in-before (Some setup) e g = acts-before e g

  pub happens_before : (e : Event) (g : G) → IsNamedUpTo g.field (happens (model_of m) e g) → AreNamed m g.field
  happens_before e g = in-before g.setup e (record g { past = e ∷ g.past })

  -- ---- a schedule

  abbrev P : Type 0
  P = Playing (MessageOf m) (StateOf m)

  -- the field stands where the group has it, while playing goes on
  abbrev pub StandsAsGroup : P → Type 0
  StandsAsGroup p = p.stands ≡ p.group.field

  abbrev pub GoesOnSo : Written P → Type 0
  GoesOnSo (On text p) = StandsAsGroup p
  GoesOnSo (Off text stop p) = Unit {0}

  within-so : (p : P) (text : List ℕ) (g : G) (o : Option Quantity) → GoesOnSo (within_limits (model_of m) p text g o)
  within-so p text g None = refl
  within-so p text g (Some q) = tt

  failed-so : (p : P) (text : List ℕ) (g : G) (b : Bool) → GoesOnSo (unless_failed (model_of m) p text g b)
  failed-so p text g false = within-so p text g (passed_after g)
  failed-so p text g true = tt

  happened-so : (p : P) (e : Event) (x : H) → GoesOnSo (happened (model_of m) p e x)
  happened-so p e (Happened c g) = failed-so p (happened_text p.group e c) g ((model_of m).has_failed g.field)
  happened-so p e (Broken at f) = tt
  happened-so p e Unanswered = tt

  tried-so : (p : P) (e : Event) (o : Option Quantity) → GoesOnSo (tried (model_of m) p e o)
  tried-so p e (Some q) = tt
  tried-so p e None = happened-so p e (happens (model_of m) e p.group)

  -- what the field was handed up to an end
  abbrev pub IsNamedTill : Written P → Type 0
  IsNamedTill w = AreNamed m (last_of w).stands

  happened-till : (p : P) (e : Event) (x : H) → StandsAsGroup p → IsNamedTill (happened (model_of m) p e x) → IsNamedUpTo p.group.field x
  happened-till p e (Happened c g) stands named = subst (AreNamed m) (happened_stands (model_of m) p e c g ((model_of m).has_failed g.field)) named
  happened-till p e (Broken at f) stands named = named
  happened-till p e Unanswered stands named = subst (AreNamed m) stands named

  tried-before : (p : P) (e : Event) (o : Option Quantity) → StandsAsGroup p → IsNamedTill (tried (model_of m) p e o) → AreNamed m p.stands
  tried-before p e (Some q) stands named = named
  tried-before p e None stands named = subst (AreNamed m) (sym stands) (happens_before e p.group (happened-till p e (happens (model_of m) e p.group) stands named))

  pub played_before : (p : P) (e : Event) → StandsAsGroup p → IsNamedTill (played (model_of m) p e) → AreNamed m p.stands
  played_before p e stands named = tried-before p e (passed_before p.group e) stands named

  pub played_so : (p : P) (e : Event) → GoesOnSo (played (model_of m) p e)
  played_so p e = tried-so p e (passed_before p.group e)

  onto-so : (text : List ℕ) (w : Written P) → GoesOnSo w → GoesOnSo (onto text w)
  onto-so text (On more p) so = so
  onto-so text (Off more stop p) so = so

  pub onto-till : (text : List ℕ) (w : Written P) → IsNamedTill (onto text w) → IsNamedTill w
  onto-till text (On more p) named = named
  onto-till text (Off more stop p) named = named

  pub follow-so : (w : Written P) (next : P → Written P) → GoesOnSo w → ((q : P) → StandsAsGroup q → GoesOnSo (next q)) → GoesOnSo (follow w next)
  follow-so (On text q) next so rest = onto-so text (next q) (rest q so)
  follow-so (Off text stop q) next so rest = so

  -- what follows does not undo what came first
  pub follow-till : (w : Written P) (next : P → Written P) → GoesOnSo w → ((q : P) → StandsAsGroup q → IsNamedTill (next q) → AreNamed m q.stands) → IsNamedTill (follow w next) → IsNamedTill w
  follow-till (On text q) next so rest named = rest q so (onto-till text (next q) named)
  follow-till (Off text stop q) next so rest named = named

  pub settle-so : (n : ℕ) (p : P) → StandsAsGroup p → GoesOnSo (settled (model_of m) n p)
  settle-so zero p stands = stands
  settle-so (suc n) p stands = by (next_message p.group) (λ k q so. settle-so n q so)
    where
      by : (o : Option ℕ) → ((k : ℕ) (q : P) → StandsAsGroup q → GoesOnSo (settled (model_of m) n q))
          → GoesOnSo (elim o [ None ↦ On [] p | Some k ↦ follow (played (model_of m) p (event.Deliver k)) (settled (model_of m) n) ])
      by None rest = stands
      by (Some k) rest = follow-so (played (model_of m) p (event.Deliver k)) (settled (model_of m) n) (played_so p (event.Deliver k)) (rest k)

  pub settle-before : (n : ℕ) (p : P) → StandsAsGroup p → IsNamedTill (settled (model_of m) n p) → AreNamed m p.stands
  settle-before zero p stands named = named
  settle-before (suc n) p stands named = by (next_message p.group) (λ q so till. settle-before n q so till) named
    where
      by : (o : Option ℕ) → ((q : P) → StandsAsGroup q → IsNamedTill (settled (model_of m) n q) → AreNamed m q.stands)
          → IsNamedTill (elim o [ None ↦ On [] p | Some k ↦ follow (played (model_of m) p (event.Deliver k)) (settled (model_of m) n) ]) → AreNamed m p.stands
      by None rest named = named
      by (Some k) rest named =
          played_before p (event.Deliver k) stands (follow-till (played (model_of m) p (event.Deliver k)) (settled (model_of m) n) (played_so p (event.Deliver k)) rest named)

  pub expand-so : (p : P) (e : Event) → StandsAsGroup p → GoesOnSo (expanded (model_of m) p e)
  expand-so p (event.Begin margin limit voters) stands = played_so p (event.Begin margin limit voters)
  expand-so p (event.Start r) stands = played_so p (event.Start r)
  expand-so p (event.Tick r) stands = played_so p (event.Tick r)
  expand-so p (event.Deliver k) stands = played_so p (event.Deliver k)
  expand-so p (event.Lose k) stands = played_so p (event.Lose k)
  expand-so p (event.Settle n) stands = settle-so n p stands
  expand-so p (event.Crash r) stands = played_so p (event.Crash r)
  expand-so p (event.Save r) stands = played_so p (event.Save r)
  expand-so p (event.Roll r k) stands = played_so p (event.Roll r k)
  expand-so p (event.Join r x) stands = played_so p (event.Join r x)
  expand-so p (event.Admit r x) stands = played_so p (event.Admit r x)
  expand-so p (event.Remove r x) stands = played_so p (event.Remove r x)
  expand-so p (event.Ask r c n request) stands = played_so p (event.Ask r c n request)
  expand-so p (event.Want c w) stands = played_so p (event.Want c w)
  expand-so p (event.Say c r) stands = played_so p (event.Say c r)
  expand-so p (event.Hear c k) stands = played_so p (event.Hear c k)
  expand-so p (event.Margin r n) stands = played_so p (event.Margin r n)
  expand-so p (event.Again c) stands = played_so p (event.Again c)

  pub expand-before : (p : P) (e : Event) → StandsAsGroup p → IsNamedTill (expanded (model_of m) p e) → AreNamed m p.stands
  expand-before p (event.Begin margin limit voters) stands named = played_before p (event.Begin margin limit voters) stands named
  expand-before p (event.Start r) stands named = played_before p (event.Start r) stands named
  expand-before p (event.Tick r) stands named = played_before p (event.Tick r) stands named
  expand-before p (event.Deliver k) stands named = played_before p (event.Deliver k) stands named
  expand-before p (event.Lose k) stands named = played_before p (event.Lose k) stands named
  expand-before p (event.Settle n) stands named = settle-before n p stands named
  expand-before p (event.Crash r) stands named = played_before p (event.Crash r) stands named
  expand-before p (event.Save r) stands named = played_before p (event.Save r) stands named
  expand-before p (event.Roll r k) stands named = played_before p (event.Roll r k) stands named
  expand-before p (event.Join r x) stands named = played_before p (event.Join r x) stands named
  expand-before p (event.Admit r x) stands named = played_before p (event.Admit r x) stands named
  expand-before p (event.Remove r x) stands named = played_before p (event.Remove r x) stands named
  expand-before p (event.Ask r c n request) stands named = played_before p (event.Ask r c n request) stands named
  expand-before p (event.Want c w) stands named = played_before p (event.Want c w) stands named
  expand-before p (event.Say c r) stands named = played_before p (event.Say c r) stands named
  expand-before p (event.Hear c k) stands named = played_before p (event.Hear c k) stands named
  expand-before p (event.Margin r n) stands named = played_before p (event.Margin r n) stands named
  expand-before p (event.Again c) stands named = played_before p (event.Again c) stands named

  said-so : (p : P) (r : Result (Option Event) RecordFault) → StandsAsGroup p → GoesOnSo (trace.said (model_of m) p r)
  said-so p (Ok None) stands = stands
  said-so p (Ok (Some e)) stands = expand-so (counted p) e stands
  said-so p (Err fault) stands = tt

  said-before : (p : P) (r : Result (Option Event) RecordFault) → StandsAsGroup p → IsNamedTill (trace.said (model_of m) p r) → AreNamed m p.stands
  said-before p (Ok None) stands named = named
  said-before p (Ok (Some e)) stands named = expand-before (counted p) e stands named
  said-before p (Err fault) stands named = named

  pub record_so : (p : P) (r : Record) → StandsAsGroup p → GoesOnSo (record_played (model_of m) p r)
  record_so p r stands = said-so p (event_of false (is_some p.group.setup) r) stands

  pub record_before : (p : P) (r : Record) → StandsAsGroup p → IsNamedTill (record_played (model_of m) p r) → AreNamed m p.stands
  record_before p r stands named = said-before p (event_of false (is_some p.group.setup) r) stands named

  pub records_before : (p : P) (records : List Record) → StandsAsGroup p → IsNamedTill (records_played (model_of m) p records) → AreNamed m p.stands
  unfolding all_written
  records_before p [] stands named = named
  records_before p (r ∷ records) stands named =
      record_before p r stands
      (follow-till (record_played (model_of m) p r) (λ q. records_played (model_of m) q records) (record_so p r stands) (λ q so till. records_before q records so till) named)

  -- so of the first record alone
  pub first_named : (p : P) (r : Record) (records : List Record) → StandsAsGroup p → IsNamedTill (records_played (model_of m) p (r ∷ records)) → IsNamedTill (record_played (model_of m) p r)
  unfolding all_written
  first_named p r records stands named =
      follow-till (record_played (model_of m) p r) (λ q. records_played (model_of m) q records) (record_so p r stands) (λ q so till. records_before q records so till) named
