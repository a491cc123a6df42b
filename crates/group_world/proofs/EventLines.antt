-- From what an event does to its lines, and to where a text ends: on every understanding at once.
use Rattle.std.proofs.Common.{arith, refl, sym, ap, subst, ◌∙◌, ◌≡◌, ℕ, zero, suc, ◌+◌, ◌<◌, ◌≤◌, ◌&&◌, cond, not, Bool, true, false, List, [], ◌∷◌, ◌++◌, length, Option, Some, None, Ok, Err, append-nil}
use Rattle.std.specs.Prelude.{nat_le, nat_lt}
use Rattle.std.proofs.lemmas.Bool.{leb-false, ltb-false, ne_eqb}
use Rattle.group_quorum.specs.Voters.{is_in}
use Rattle.values.specs.declared.event.Event.{Event}
use Rattle.values.specs.declared.event.Event.TheVariants as event
use Rattle.values.specs.declared.limits.TheConstants.{MAX_ANSWERS, MAX_CLIENTS, MAX_EVENTS, MAX_MESSAGES, MAX_REPLICAS, MAX_STATES}
use Rattle.schedule_model.specs.Lines as lines
use Rattle.schedule_model.specs.Quantities as quantity
use Rattle.schedule_model.specs.Quantities.{Quantity}
use Rattle.schedule_model.specs.Written.{Written, On, Off, AtLimit, AtField, last_of}
use Rattle.group_model.specs.Field.{Field}
use Rattle.group_model.specs.Group.{Group}
use Rattle.group_model.specs.Happens.{Came, Refused, Replied, Reported, Passed, Happening, Happened, Broken, Unanswered, happens}
use Rattle.trace_model.specs.Limits.{first_passed, passed_after, passed_before, starts_one}
use Rattle.trace_model.specs.Trace.{Playing, came_lines, happened, happened_text, played, tried, unless_failed, within_limits}
use Rattle.enclave_host.specs.Fields.{Map}
use Rattle.group_world.specs.declared.came.Came as code
use Rattle.group_world.specs.declared.came.Unplayed.{Unplayed}
use Rattle.group_world.specs.declared.came.Unplayed.TheVariants as unplayed
use Rattle.group_world.specs.declared.world.World.{World}
use Rattle.group_world.specs.declared.happened.Happened.{Happened as Telling}
use Rattle.group_world.specs.Given.{Given}
use Rattle.group_world.specs.Happened.{TellsCame}
use Rattle.group_world.specs.Meanings.{Meaning, Until, MessageOf, StateOf, model_of, AreNamed, Fits, SaysMessage}
use Rattle.group_world.specs.Playable.{HasRoom, passed_first, starts_in}
use Rattle.group_world.specs.Plays.{ActsIn, Does, EndsAt, IsFailed, IsNamedBy, IsNamedIn, Plays, came_of, lines_by, passed_in}
use Rattle.group_world.specs.Roster.{IsRoster}
use Rattle.group_world.specs.Standing.{IsWorld, Sees}
use Rattle.group_world.proofs.ClosingLines.{as_many_answers, as_many_letters}
use Rattle.group_world.proofs.Leaving.{tells_event}
use Rattle.group_world.proofs.Understood.{nothing_failed}

-- ---- the event is counted first

abbrev pub Counts : World → World → Event → Type 0
Counts w w1 e = (m : Meaning) (g : Group (MessageOf m) (StateOf m)) → IsWorld (SaysMessage m) w g → IsWorld (SaysMessage m) w1 (record g { past = e ∷ g.past })

pub counts_one : (w : World) (n : ℕ) (roster : IsRoster w.begun w.running.items w.started.items) (e : Event) → n ≡ w.events + 1 → Counts w (record w { events = n; roster = roster }) e
counts_one w n roster e one = λ m g h. record {
  begun = h.begun;
  running = h.running;
  started = h.started;
  started_count = h.started_count;
  letters = h.letters;
  lost = h.lost;
  waiting = h.waiting;
  answers = h.answers;
  cores = h.cores;
  core_count = h.core_count;
  saves = h.saves;
  save_count = h.save_count;
  rolled = h.rolled;
  confs = h.confs;
  committed = h.committed;
  events = let same = h.events in omega (arith, same, one);
}

-- ---- the limits, by the world

module _ {M F : Type 0} (says : (from to : ℕ) → List ℕ → M → Type 0) (w : World) (g : Group M F) (h : IsWorld says w g) where
  start_same : (r : ℕ) → starts_one g (event.Start r) ≡ starts_in w (event.Start r)
  start_same zero = refl
  start_same (suc k) =
      ap not (sym (h.started (suc k))) ∙ sym (ap (λ (b : Bool). not b && not (is_in w.started.items (suc k))) (ne_eqb (suc k) 0 (λ e. cc e)))

  starts_same : (e : Event) → starts_one g e ≡ starts_in w e
  starts_same (event.Begin margin limit voters) = refl
  starts_same (event.Start r) = start_same r
  starts_same (event.Tick r) = refl
  starts_same (event.Deliver k) = refl
  starts_same (event.Lose k) = refl
  starts_same (event.Settle n) = refl
  starts_same (event.Crash r) = refl
  starts_same (event.Save r) = refl
  starts_same (event.Roll r k) = refl
  starts_same (event.Join r x) = refl
  starts_same (event.Admit r x) = refl
  starts_same (event.Remove r x) = refl
  starts_same (event.Ask r c n request) = refl
  starts_same (event.Want c want) = refl
  starts_same (event.Say c r) = refl
  starts_same (event.Hear c k) = refl
  starts_same (event.Margin r n) = refl
  starts_same (event.Again c) = refl

  before_same : (e : Event) → passed_before g e ≡ passed_first w e
  before_same e = λ i. first_passed (
      (nat_le MAX_EVENTS (sym h.events i), quantity.Events)
      ∷ (starts_same e i && nat_le MAX_REPLICAS (sym h.started_count i), quantity.Replicas)
      ∷ []
      )

  after_same : passed_after g ≡ passed_in w
  after_same = λ i. first_passed (
      (nat_lt MAX_MESSAGES (sym (as_many_letters says w.post g.messages h.letters) i), quantity.Messages)
      ∷ (nat_lt MAX_ANSWERS (sym (as_many_answers w.answers.items g.answers h.answers) i), quantity.Answers)
      ∷ (nat_lt MAX_STATES (sym h.save_count i), quantity.States)
      ∷ (nat_lt MAX_CLIENTS (sym h.core_count i), quantity.Clients)
      ∷ []
      )

-- an event that passes no limit has room
has_room_by : (starts many enough : Bool) (n : ℕ) → nat_le MAX_REPLICAS n ≡ enough → first_passed ((many, quantity.Events) ∷ (starts && enough, quantity.Replicas) ∷ []) ≡ None → starts ≡ true → n < MAX_REPLICAS
has_room_by starts true enough n is free so = absurd cc
has_room_by false false enough n is free so = absurd cc
has_room_by true false true n is free so = absurd cc
has_room_by true false false n is free so = leb-false MAX_REPLICAS n is

pub has_room : (w : World) (e : Event) → passed_first w e ≡ None → HasRoom w e
has_room w e free = λ so. has_room_by (starts_in w e) (nat_le MAX_EVENTS w.events) (nat_le MAX_REPLICAS (length w.started.items)) (length w.started.items) refl free so

-- what follows from that no limit is passed
first_free : (b : Bool) (q : Quantity) (later : Option Quantity) → cond b (Some q) later ≡ None → (b ≡ false) × (later ≡ None)
first_free false q later none = (refl, none)
first_free true q later none = absurd cc

pub few_events : (w : World) (e : Event) → passed_first w e ≡ None → w.events < MAX_EVENTS
few_events w e none = leb-false MAX_EVENTS w.events (first_free (nat_le MAX_EVENTS w.events) quantity.Events _ none).0

pub few_messages : (w : World) → passed_in w ≡ None → length w.post ≤ MAX_MESSAGES
few_messages w none = ltb-false MAX_MESSAGES (length w.post) (first_free (nat_lt MAX_MESSAGES (length w.post)) quantity.Messages _ none).0

pub few_answers : (w : World) → passed_in w ≡ None → length w.answers.items ≤ MAX_ANSWERS
few_answers w none =
    ltb-false MAX_ANSWERS (length w.answers.items)
    (first_free (nat_lt MAX_ANSWERS (length w.answers.items)) quantity.Answers _ (first_free (nat_lt MAX_MESSAGES (length w.post)) quantity.Messages _ none).1).0

-- ---- the lines

came_same : {M F : Type 0} (g : Group M F) (c : Came) → came_lines g c ≡ lines_by (length g.messages + 1) (length g.answers + 1) c
came_same g (Refused r) = refl
came_same g (Replied r batch) = refl
came_same g (Reported client report) = refl
came_same g Passed = refl

abbrev pub text_by : World → Event → code.Came → List ℕ
text_by w e c = lines.lines_text (lines.event_line (w.events + 1) e ∷ lines_by (length w.post + 1) (length w.answers.items + 1) (came_of c))

lines_same : {M F : Type 0} (says : (from to : ℕ) → List ℕ → M → Type 0) (w : World) (g : Group M F) (e : Event) (c : code.Came) → IsWorld says w g → happened_text g e (came_of c) ≡ text_by w e c
lines_same says w g e c h =
    ap (λ (ls : List lines.Line). lines.lines_text (lines.event_line (length g.past + 1) e ∷ ls)) (came_same g (came_of c))
    ∙ (λ i. lines.lines_text (
    lines.event_line (sym h.events i + 1) e
    ∷ lines_by (sym (as_many_letters says w.post g.messages h.letters) i + 1) (sym (as_many_answers w.answers.items g.answers h.answers) i + 1) (came_of c)
    ))

-- ---- what was named, up to the end of an event

module _ {M F : Type 0} (field : Field M F) (p : Playing M F) (e : Event) where
  limits_stand : (text : List ℕ) (g : Group M F) (o : Option Quantity) → (last_of (within_limits field p text g o)).stands ≡ g.field
  limits_stand text g None = refl
  limits_stand text g (Some q) = refl

  pub happened_stands : (c : Came) (g : Group M F) (failed : Bool) → (last_of (unless_failed field p (happened_text p.group e c) g failed)).stands ≡ g.field
  happened_stands c g false = limits_stand (happened_text p.group e c) g (passed_after g)
  happened_stands c g true = refl

module _ (m : Meaning) (p : Playing (MessageOf m) (StateOf m)) (e : Event) where
  named_happened : (x : Happening (MessageOf m) (StateOf m)) → AreNamed m (last_of (happened (model_of m) p e x)).stands → IsNamedIn m x
  named_happened (Happened c g) named = subst (AreNamed m) (happened_stands (model_of m) p e c g ((model_of m).has_failed g.field)) named
  named_happened (Broken at f) named = named
  named_happened Unanswered named = tt

-- ---- an event that is tried

module _ (w w1 w' : World) (map map' : Option Map) (given : List Given) (e : Event) (counted : Counts w w1 e) (none : passed_first w e ≡ None) where
  -- up to what happens
  happens_is : (m : Meaning) (p : Playing (MessageOf m) (StateOf m)) → IsWorld (SaysMessage m) w p.group → played (model_of m) p e ≡ happened (model_of m) p e (happens (model_of m) e p.group)
  happens_is m p world = ap (tried (model_of m) p e) (before_same (SaysMessage m) w p.group world e ∙ none)

  named_in : (m : Meaning) (p : Playing (MessageOf m) (StateOf m)) → IsWorld (SaysMessage m) w p.group → IsNamedBy m p e → IsNamedIn m (happens (model_of m) e p.group)
  named_in m p world named =
      named_happened m p e (happens (model_of m) e p.group) (subst (λ (q : Written (Playing (MessageOf m) (StateOf m))). AreNamed m (last_of q).stands) (happens_is m p world) named)

  sees_counted : (m : Meaning) (ds : List Given) (g : Group (MessageOf m) (StateOf m)) → Sees m w map ds g → Sees m w1 map ds (record g { past = e ∷ g.past })
  sees_counted m ds g sees = record { world = counted m g sees.world; field = sees.field }

  -- it happened
  module _ (c : code.Came) (does : Does (ActsIn e) w1 w' map map' given (Ok c)) where
    happened_is : (m : Meaning) (later : List Given) (p : Playing (MessageOf m) (StateOf m)) → Sees m w map (given ++ later) p.group → IsNamedBy m p e
        → (h : Group (MessageOf m) (StateOf m)) × (played (model_of m) p e ≡ within_limits (model_of m) p (happened_text p.group e (came_of c)) h (passed_after h)) × Sees m w' map' later h × (happens (model_of m) e p.group ≡ Happened (came_of c) h)
    happened_is m later p sees named =
        let (h, it, seen) = does m later (record p.group { past = e ∷ p.group.past }) (happens (model_of m) e p.group) (sees_counted m (given ++ later) p.group sees) refl (named_in m p sees.world named) in (
          h,
          happens_is m p sees.world ∙ ap (happened (model_of m) p e) it
              ∙ ap (unless_failed (model_of m) p (happened_text p.group e (came_of c)) h) (nothing_failed m map' later h.field seen.field),
          seen,
          it,
        )

    pub event_plays : (done : Telling) (before after : List ℕ) → passed_in w' ≡ None → after ≡ before ++ text_by w e c → TellsCame (came_of c) (length w.answers.items + 1) done
        → Plays w w' map map' given e before after (Ok done)
    event_plays done before after within text told = (
      text_by w e c,
      text,
      λ m later p (sees, stands) named.
          let (h, it, seen, so) = happened_is m later p sees named in (
            record p { group = h; stands = h.field },
            it ∙ ap (within_limits (model_of m) p (happened_text p.group e (came_of c)) h) (after_same (SaysMessage m) w' h seen.world ∙ within)
                ∙ ap (λ (t : List ℕ). On t (record p { group = h; stands = h.field })) (lines_same (SaysMessage m) w p.group e c sees.world),
            (seen, refl),
            refl,
            tells_event m e done p.group h (came_of c) so (subst (λ (n : ℕ). TellsCame (came_of c) (n + 1) done) (as_many_answers w.answers.items p.group.answers sees.world.answers) told),
          ),
    )

    pub event_passes : (q : Quantity) → passed_in w' ≡ Some q → EndsAt w map map' given e (AtLimit q)
    event_passes q some = λ m p (sees, stands) named.
        let (h, it, seen, so) = happened_is m [] p (subst (λ (ds : List Given). Sees m w map ds p.group) (sym (append-nil given)) sees) named in (
          record p { stands = h.field },
          it ∙ ap (within_limits (model_of m) p (happened_text p.group e (came_of c)) h) (after_same (SaysMessage m) w' h seen.world ∙ some),
          seen.field,
        )

  failed_ends : {M F : Type 0} (field : Field M F) (p : Playing M F) (x : Happening M F) → IsFailed field x → (q : Playing M F) × (happened field p e x ≡ Off [] AtField q)
  failed_ends field p (Happened c g) failed = (record p { stands = g.field }, ap (unless_failed field p (happened_text p.group e c) g) failed)
  failed_ends field p (Broken at f) failed = absurd failed
  failed_ends field p Unanswered failed = (p, refl)

  -- it did not happen
  pub event_stops : (u : Unplayed) (before after : List ℕ) → after ≡ before → Does (ActsIn e) w1 w' map map' given (Err u) → Plays w w' map map' given e before after (Err u)
  event_stops unplayed.Memory before after same does = same
  event_stops unplayed.FieldFault before after same does = (
    same,
    λ m p (sees, stands) named.
        let failed = does m (record p.group { past = e ∷ p.group.past }) (happens (model_of (Until m)) e p.group) (sees_counted (Until m) given p.group sees) refl (named_in (Until m) p sees.world named) in
        let (q, it) = failed_ends (model_of (Until m)) p (happens (model_of (Until m)) e p.group) failed in
        (q, happens_is (Until m) p sees.world ∙ it),
  )
  event_stops (unplayed.Frame at) before after same does = (
    same,
    λ m p (sees, stands) named.
        let (f, it, fits) = does m (record p.group { past = e ∷ p.group.past }) (happens (model_of m) e p.group) (sees_counted m given p.group sees) refl (named_in m p sees.world named) in
        (record p { stands = f }, happens_is m p sees.world ∙ ap (happened (model_of m) p e) it, fits),
  )
  event_stops (unplayed.Limit which) before after same does = absurd does

-- it would pass a limit
pub event_limited : (w : World) (map : Option Map) (e : Event) (q : Quantity) → passed_first w e ≡ Some q → EndsAt w map map [] e (AtLimit q)
event_limited w map e q some = λ m p (sees, stands) named. (
  p,
  ap (tried (model_of m) p e) (before_same (SaysMessage m) w p.group sees.world e ∙ some),
  subst (Fits m map []) (sym stands) sees.field,
)
