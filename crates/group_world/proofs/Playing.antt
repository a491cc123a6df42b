-- One record, on every way that the group may take.
use Rattle.std.proofs.Common.{refl, sym, ap, subst, ◌∙◌, ◌≡◌, ℕ, ◌+◌, Bool, true, false, List, [], ◌∷◌, ◌++◌, Option, Some, None, Result, Ok, Err, OnErr, OnOk, append-nil, append_assoc}
use Rattle.values.specs.declared.event.Event.{Event}
use Rattle.record_cutting.specs.Lines.{Record}
use Rattle.record_stream.specs.Course.{Adds, Begins, Breaks, Course, Cuts, Goes, Grows, Outlook, PlaysTo, Stops}
use Rattle.record_stream.specs.declared.player.Stop.{Stop as Stopping}
use Rattle.record_stream.specs.declared.player.Stop.TheVariants as stop
use Rattle.schedule_model.specs.Reading.{RecordFault}
use Rattle.schedule_model.specs.Records.{event_of}
use Rattle.schedule_model.specs.Written.{Written, On, Off, Stop, AtRecord, AtField, all_written, follow, last_of, onto, stop_of, stopped_text, text_with}
use Rattle.trace_model.specs.Trace.{Playing, closing, counted, expanded, record_played, records_played, said}
use Rattle.trace_text.specs.declared.stopped.Quantity.{Quantity}
use Rattle.trace_text.specs.declared.stopped.Quantity.TheVariants as counting
use Rattle.trace_text.specs.Refused.{quantity_of}
use Rattle.enclave_host.specs.Fields.{Map}
use Rattle.group_world.specs.declared.halt.Halt.{Halt}
use Rattle.group_world.specs.declared.halt.Halt.TheVariants as halt
use Rattle.group_world.specs.declared.world.World.{World}
use Rattle.group_world.specs.Given.{Given}
use Rattle.group_world.specs.Closing.{closing_of}
use Rattle.group_world.specs.Halted.{Halts, halt_for, halted_by, quantity_for, stop_by}
use Rattle.group_world.specs.Meanings.{Meaning, Until, MessageOf, StateOf, SaysMessage, model_of, AreNamed}
use Rattle.group_world.specs.Openings.{fits_spent}
use Rattle.group_world.specs.Plays.{SeesPlaying}
use Rattle.group_world.specs.Playing.{IsUpTo, PlaysOff, PlaysOn, PlaysSome, PlaysUpTo, Takes, Way, Writes, all_of, asks_all, close_by, course, course_of, gone_on, is_at_field, is_spent, next_way}
use Rattle.group_world.proofs.ClosingLines.{closing_same}
use Rattle.group_world.proofs.Before.{follow_onto, last_onto, named_first}
use Rattle.group_world.proofs.Named.{GoesOnSo, IsNamedTill, StandsAsGroup, record_before, record_so}

-- ---- a text before what follows
module _ {S : Type 0} (text : List ℕ) where
  pub text_onto : (close : S → List ℕ) (w : Written S) → text_with close (onto text w) ≡ text ++ text_with close w
  text_onto close (On more s) = append_assoc text more (close s)
  text_onto close (Off more stop s) = append_assoc text more (stopped_text stop)

  stop_onto : (w : Written S) → stop_of (onto text w) ≡ stop_of w
  stop_onto (On more s) = refl
  stop_onto (Off more stop s) = refl

-- ---- halts

quantity_back : (which : Quantity) → quantity_for (quantity_of which) ≡ which
quantity_back counting.Events = refl
quantity_back counting.Messages = refl
quantity_back counting.Answers = refl
quantity_back counting.Replicas = refl
quantity_back counting.States = refl
quantity_back counting.Clients = refl

pub halt_back : (h : Halt) → halt_for (stop_by h) ≡ Some h
halt_back (halt.Record number cause field) = refl
halt_back (halt.Limit which) = ap (λ (w : Quantity). Some (halt.Limit w)) (quantity_back which)
halt_back (halt.Frame at) = refl

halt_asks : (m : Meaning) (h : Halt) (f : StateOf m) → asks_all m (Some (stop_by h)) f ≡ is_spent m f
halt_asks m (halt.Record number cause field) f = refl
halt_asks m (halt.Limit which) f = refl
halt_asks m (halt.Frame at) f = refl

-- ---- what is played after a record

module _ (m : Meaning) where
  abbrev P : Type 0
  P = Playing (MessageOf m) (StateOf m)

  after_stands : (w : Written P) → GoesOnSo m w → StandsAsGroup m (gone_on m w)
  after_stands (On text q) h = h
  after_stands (Off text stop q) h = refl

  after_ends : (w : Written P) → (gone_on m w).stands ≡ (last_of w).stands
  after_ends (On text q) = refl
  after_ends (Off text stop q) = refl

  -- ---- one record on one way

  module _ (p : P) (stands : StandsAsGroup m p) (r : Record) where
    abbrev W : Written P
    W = record_played (model_of m) p r

    abbrev next : List Record → P → Written P
    next more q = records_played (model_of m) q more

    first_is : (more : List Record) → records_played (model_of m) p ((r ∷ []) ++ more) ≡ follow W (next more)
    unfolding all_written
    first_is more = refl

    named : (more : List Record) → (course_of m p).holds ((r ∷ []) ++ more) → IsNamedTill m W
    named more here = named_first m p stands r more here

    pub goes_one : (text : List ℕ) → (IsNamedTill m W → (q : P) × (W ≡ On text q)) → Goes (course_of m p) (r ∷ []) (course_of m (gone_on m W)) text
    goes_one text on = record {
      holds = λ more here. turn (λ (w : Written P). IsNamedTill m (follow w (next more)) → IsNamedTill m (next more (gone_on m w))) (λ q. named_more q more) (named more here) (subst (IsNamedTill m) (first_is more) here);
      text = λ closed more here.
          ap (text_with (close_by closed)) (first_is more)
          ∙ turn (λ (w : Written P). text_with (close_by closed) (follow w (next more)) ≡ text ++ text_with (close_by closed) (next more (gone_on m w))) (λ q. text_onto text (close_by closed) (next more q)) (named more here);
      reason = λ more here.
          ap (λ (w : Written P). halted_by (stop_of w)) (first_is more)
          ∙ turn (λ (w : Written P). halted_by (stop_of (follow w (next more))) ≡ halted_by (stop_of (next more (gone_on m w)))) (λ q. ap halted_by (stop_onto text (next more q))) (named more here);
      failed = λ more here.
          ap (λ (w : Written P). is_at_field (stop_of w)) (first_is more)
          ∙ turn (λ (w : Written P). is_at_field (stop_of (follow w (next more))) ≡ is_at_field (stop_of (next more (gone_on m w)))) (λ q. ap is_at_field (stop_onto text (next more q))) (named more here);
      takes_all = λ more here.
          ap (λ (w : Written P). asks_all m (stop_of w) (last_of w).stands) (first_is more)
          ∙ turn (λ (w : Written P). asks_all m (stop_of (follow w (next more))) (last_of (follow w (next more))).stands ≡ asks_all m (stop_of (next more (gone_on m w))) (last_of (next more (gone_on m w))).stands) (λ q. all_onto (next more q)) (named more here);
    }
      where
        -- what holds of a text that goes on holds of this one
        turn : (Q : Written P → Type 0) → ((q : P) → Q (On text q)) → IsNamedTill m W → Q W
        turn Q h named = let (q, is) = on named in subst Q (sym is) (h q)

        named_more : (q : P) (more : List Record) → IsNamedTill m (onto text (next more q)) → IsNamedTill m (next more q)
        named_more q more h = subst (λ (v : P). AreNamed m v.stands) (last_onto text (next more q)) h

        all_onto : (w : Written P) → asks_all m (stop_of (onto text w)) (last_of (onto text w)).stands ≡ asks_all m (stop_of w) (last_of w).stands
        all_onto (On more q) = refl
        all_onto (Off more stop q) = refl

    -- the record ends the text
    module _ (text : List ℕ) (why : Stop) where
      ended : (Q : Written P → Type 0) → (q : P) × (W ≡ Off text why q) → ((q : P) → W ≡ Off text why q → Q (Off text why q)) → Q W
      ended Q (q, is) h = subst Q (sym is) (h q is)

    pub stops_one : (text : List ℕ) (h : Halt) → (IsNamedTill m W → (q : P) × (W ≡ Off text (stop_by h) q) × (is_spent m q.stands ≡ true)) → Stops (course_of m p) (r ∷ []) h (text ++ stopped_text (stop_by h))
    stops_one text h off = record {
      text = λ closed more here.
          let (q, is, spent) = off (named more here) in
          ap (λ (w : Written P). text_with (close_by closed) w) (first_is more ∙ ap (λ (w : Written P). follow w (next more)) is);
      reason = λ more here.
          let (q, is, spent) = off (named more here) in
          ap (λ (w : Written P). halted_by (stop_of w)) (first_is more ∙ ap (λ (w : Written P). follow w (next more)) is) ∙ halt_back h;
      takes_all = λ more here.
          let (q, is, spent) = off (named more here) in
          ap (λ (w : Written P). asks_all m (stop_of w) (last_of w).stands) (first_is more ∙ ap (λ (w : Written P). follow w (next more)) is)
          ∙ halt_asks m h q.stands ∙ spent;
    }

    pub begins_one : (text : List ℕ) → (IsNamedTill m W → (rest : Written P) × (W ≡ onto text rest)) → Begins (course_of m p) (r ∷ []) text
    begins_one text some = record {
      text = λ closed more here.
          let (rest, is) = some (named more here) in
          let all = follow rest (next more) in (
            text_with (close_by closed) all,
            ap (text_with (close_by closed)) (first_is more ∙ ap (λ (w : Written P). follow w (next more)) is ∙ follow_onto text rest (next more)) ∙ text_onto text (close_by closed) all,
          );
    }

    pub breaks_one : (text : List ℕ) → (IsNamedTill m W → (q : P) × (W ≡ Off text AtField q)) → Breaks (course_of m p) (r ∷ []) text
    breaks_one text off = record {
      text = λ closed more here.
          let (q, is) = off (named more here) in
          ap (λ (w : Written P). text_with (close_by closed) w) (first_is more ∙ ap (λ (w : Written P). follow w (next more)) is) ∙ append-nil text;
      failed = λ more here.
          let (q, is) = off (named more here) in
          ap (λ (w : Written P). is_at_field (stop_of w)) (first_is more ∙ ap (λ (w : Written P). follow w (next more)) is);
    }

-- ---- on every way

module _ (w w' : World) (records : ℕ) (map map' : Option Map) (r : Record) where
  -- where the group that is seen stands, the record says the same
  reads_so : (m : Meaning) (p : Playing (MessageOf m) (StateOf m)) (ds : List Given) (x : Result (Option Event) RecordFault) → event_of false w.begun r ≡ x → SeesPlaying m w map ds p → record_played (model_of m) p r ≡ said (model_of m) p x
  reads_so m p ds x is (sees, stands) =
      let world = sees.world in
      ap (said (model_of m) p) (ap (λ (b : Bool). event_of false b r) (sym world.begun) ∙ is)

  -- where a record was played on
  module _ (given : List Given) (text : List ℕ) where
    abbrev pub GoesOn : Type 0
    GoesOn =
        (m : Meaning) (later : List Given) (p : Playing (MessageOf m) (StateOf m)) → SeesPlaying m w map (given ++ later) p → IsNamedTill m (record_played (model_of m) p r)
        → (q : Playing (MessageOf m) (StateOf m)) × (record_played (model_of m) p r ≡ On text q) × SeesPlaying m w' map' later q × (q.records ≡ p.records + 1)

    pub way_goes : GoesOn → (fails : Bool) (later : List Given) (way : Way) → Takes w records map fails (given ++ later) way
        → Goes (course way) (r ∷ []) (course (next_way way r)) text × Takes w' (records + 1) map' fails later (next_way way r)
    way_goes goes fails later way t =
        let m = way.meaning in
        let p = way.playing in (
          goes_one m p t.stands r text (λ named. let (q, is, seen, counted) = on t named in (q, is)),
          record {
            up_to = t.up_to;
            stands = after_stands m (record_played (model_of m) p r) (record_so m p r t.stands);
            sees = λ named.
                let (q, is, seen, counted) = on t (subst (AreNamed m) (after_ends m (record_played (model_of m) p r)) named) in
                subst (λ (x : Written (Playing (MessageOf m) (StateOf m))). SeesPlaying m w' map' later (gone_on m x) × ((gone_on m x).records ≡ records + 1)) (sym is) (seen, counted);
          },
        )
      where
        on : (t : Takes w records map fails (given ++ later) way) → IsNamedTill way.meaning (record_played (model_of way.meaning) way.playing r)
            → (q : Playing (MessageOf way.meaning) (StateOf way.meaning)) × (record_played (model_of way.meaning) way.playing r ≡ On text q) × SeesPlaying way.meaning w' map' later q × (q.records ≡ records + 1)
        on t named =
            let (sees, counted) = t.sees (record_before way.meaning way.playing r t.stands named) in
            let (q, is, seen, same) = goes way.meaning later way.playing sees named in
            (q, is, seen, same ∙ ap (λ (n : ℕ). n + 1) counted)

    pub way_stops : (h : Halt)
        → ((m : Meaning) (p : Playing (MessageOf m) (StateOf m)) → SeesPlaying m w map given p → p.records ≡ records → IsNamedTill m (record_played (model_of m) p r)
        → (q : Playing (MessageOf m) (StateOf m)) × (record_played (model_of m) p r ≡ Off text (stop_by h) q) × (is_spent m q.stands ≡ true))
        → (way : Way) → Takes w records map false given way → Stops (course way) (r ∷ []) h (text ++ stopped_text (stop_by h))
    way_stops h off way t =
        stops_one way.meaning way.playing t.stands r text h
        (λ named. let (sees, counted) = t.sees (record_before way.meaning way.playing r t.stands named) in off way.meaning way.playing sees counted named)

    pub way_begins : ((m : Meaning) (p : Playing (MessageOf m) (StateOf m)) → SeesPlaying m w map given p → IsNamedTill m (record_played (model_of m) p r)
        → (rest : Written (Playing (MessageOf m) (StateOf m))) × (record_played (model_of m) p r ≡ onto text rest))
        → (way : Way) → Takes w records map false given way → Begins (course way) (r ∷ []) text
    way_begins some way t =
        begins_one way.meaning way.playing t.stands r text
        (λ named. let (sees, counted) = t.sees (record_before way.meaning way.playing r t.stands named) in some way.meaning way.playing sees named)

    pub way_fails : ((m : Meaning) (p : Playing (MessageOf (Until m)) (StateOf (Until m))) → SeesPlaying (Until m) w map given p → IsNamedTill (Until m) (record_played (model_of (Until m)) p r)
        → (q : Playing (MessageOf (Until m)) (StateOf (Until m))) × (record_played (model_of (Until m)) p r ≡ Off text AtField q))
        → (way : Way) → Takes w records map true given way → Breaks (course way) (r ∷ []) text
    way_fails off way t = fails way.meaning way.playing t.up_to t.stands t.sees
      where
        fails : (m : Meaning) (p : Playing (MessageOf m) (StateOf m)) → IsUpTo true m → StandsAsGroup m p → (AreNamed m p.stands → SeesPlaying m w map given p × (p.records ≡ records)) → Breaks (course_of m p) (r ∷ []) text
        fails (Until m) p up_to stands sees = breaks_one (Until m) p stands r text (λ named. let (seen, counted) = sees (record_before (Until m) p r stands named) in off m p seen named)
        fails m p up_to stands sees = absurd up_to

  -- a record that is none
  pub fault_stops : (fault : RecordFault) → event_of false w.begun r ≡ Err fault → (way : Way) → Takes w records map false [] way
      → Stops (course way) (r ∷ []) (halt.Record (records + 1) fault.cause fault.field) (stopped_text (AtRecord (records + 1) fault))
  fault_stops fault reads = way_stops [] [] (halt.Record (records + 1) fault.cause fault.field) (λ m p (sees, stands) counted named. (
    p,
    reads_so m p [] (Err fault) reads (sees, stands) ∙ ap (λ (n : ℕ). Off [] (AtRecord (n + 1) fault) p) counted,
    ap (is_spent m) stands ∙ fits_spent m map p.group.field sees.field,
  ))

  -- ---- a record that says something
  module _ (e : Event) (reads : event_of false w.begun r ≡ Ok (Some e)) (given : List Given) (text : List ℕ) where
    says : (m : Meaning) (p : Playing (MessageOf m) (StateOf m)) (ds : List Given) → SeesPlaying m w map ds p → record_played (model_of m) p r ≡ expanded (model_of m) (counted p) e
    says m p ds sees = reads_so m p ds (Ok (Some e)) reads sees

    pub event_goes : PlaysOn (all_of e) w w' map map' given text → (fails : Bool) (later : List Given) (way : Way) → Takes w records map fails (given ++ later) way
        → Goes (course way) (r ∷ []) (course (next_way way r)) text × Takes w' (records + 1) map' fails later (next_way way r)
    event_goes plays = way_goes given text (λ m later p sees named.
        let is = says m p (given ++ later) sees in
        let (q, it, seen, same) = plays m later (counted p) sees (subst (IsNamedTill m) is named) in
        (q, is ∙ it, seen, same))

    pub event_stops : (h : Halt) → PlaysOff (all_of e) w w' map map' given text (stop_by h) → (way : Way) → Takes w records map false given way → Stops (course way) (r ∷ []) h (text ++ stopped_text (stop_by h))
    event_stops h plays = way_stops given text h (λ m p sees counted_so named.
        let is = says m p given sees in
        let (q, it, fits) = plays m (counted p) sees (subst (IsNamedTill m) is named) in
        (q, is ∙ it, fits_spent m map' q.stands fits))

    pub event_begins : PlaysSome (all_of e) w w' map map' given text → (way : Way) → Takes w records map false given way → Begins (course way) (r ∷ []) text
    event_begins plays = way_begins given text (λ m p sees named.
        let is = says m p given sees in
        let (rest, it) = plays m (counted p) sees (subst (IsNamedTill m) is named) in
        (rest, is ∙ it))

    pub event_fails : PlaysUpTo (all_of e) w w' map map' given text → (way : Way) → Takes w records map true given way → Breaks (course way) (r ∷ []) text
    event_fails plays = way_fails given text (λ m p sees named.
        let is = says (Until m) p given sees in
        let (q, it) = plays m (counted p) sees (subst (IsNamedTill (Until m)) is named) in
        (q, is ∙ it))

-- a remark
pub remark_goes : (w : World) (records : ℕ) (map : Option Map) (r : Record) → event_of false w.begun r ≡ Ok None → (fails : Bool) (later : List Given) (way : Way) → Takes w records map fails later way
    → Goes (course way) (r ∷ []) (course (next_way way r)) [] × Takes w (records + 1) map fails later (next_way way r)
remark_goes w records map r reads =
    way_goes w w records map map r [] [] (λ m later p sees named. (counted p, reads_so w w records map map r m p later (Ok None) reads sees, sees, refl))

pub begins_nothing : (a : Course Halt) (rs : List Record) → Begins a rs []
begins_nothing a rs = record { text = λ closed more here. (a.text closed (rs ++ more), refl) }

-- ---- what a player did

never_done : {T : Type 0} (e : Stopping Halt) (done : T) → (let ended : Result T (Stopping Halt) = Err e in ended ≡ Ok done) → ⊥
never_done e done is = cc is

-- of a record that says an event, by what was written
module _ {S : Type 0} (gains : S → S → List Given → Type 0) (takes : S → Outlook Way Given) (p q : S) (w w' : World) (records : ℕ) (map map' : Option Map) (r : Record) (e : Event)
    (reads : event_of false w.begun r ≡ Ok (Some e)) (given : List Given) (gained : gains p q given) (was : (fails : Bool) (ds : List Given) (way : Way) → takes p fails ds way → Takes w records map fails ds way) where
  event_stopped : {T : Type 0} (before after : List ℕ) (o : Result T (Stopping Halt)) → ((done : T) → o ≡ Ok done → ⊥) → Writes (all_of e) w w' map map' given before after o → PlaysTo gains takes course next_way p (r ∷ []) q before after o
  event_stopped before after (Ok done) never h = absurd (never done refl)
  event_stopped before after (Err (stop.Stopped why)) never (text, grown, off) = (
    text ++ stopped_text (stop_by why),
    record { given = given; gained = gained; stops = λ way taken. event_stops w w' records map map' r e reads given text why off way (was false given way taken) },
    grown,
  )
  event_stopped before after (Err stop.Memory) never (text, grown, some) = (
    text,
    record { given = given; gained = gained; begins = λ way taken. event_begins w w' records map map' r e reads given text some way (was false given way taken) },
    grown,
  )
  event_stopped before after (Err stop.Failed) never (text, grown, some, up_to) = (
    text,
    record {
      given = given;
      gained = gained;
      breaks = λ way taken. event_fails w w' records map map' r e reads given text up_to way (was true given way taken);
      begins = λ way taken. event_begins w w' records map map' r e reads given text some way (was false given way taken);
    },
    grown,
  )

  pub event_played : {T : Type 0} (before after : List ℕ) (o : Result T (Stopping Halt)) → OnOk o ((fails : Bool) (ds : List Given) (way : Way) → Takes w' (records + 1) map' fails ds way → takes q fails ds way)
      → Writes (all_of e) w w' map map' given before after o → PlaysTo gains takes course next_way p (r ∷ []) q before after o
  event_played before after (Ok done) is (text, grown, plays) = (
    text,
    record {
      given = given;
      gained = gained;
      goes = λ fails later way taken.
          let (goes, next) = event_goes w w' records map map' r e reads given text plays fails later way (was fails (given ++ later) way taken) in
          (goes, is fails later (next_way way r) next);
    },
    grown,
  )
  event_played {T = T} before after (Err e) is h = event_stopped {T = T} before after (Err e) (never_done e) h

-- of a record that is none
module _ {S : Type 0} (gains : S → S → List Given → Type 0) (takes : S → Outlook Way Given) (p q : S) (w : World) (records : ℕ) (map : Option Map) (r : Record)
    (none : gains p q []) (was : (fails : Bool) (ds : List Given) (way : Way) → takes p fails ds way → Takes w records map fails ds way) where
  -- nothing was written
  pub none_played : (before : List ℕ) → (text : List ℕ) × Cuts gains takes course next_way p (r ∷ []) q text × Grows before before text
  none_played before = ([], record { given = []; gained = none; begins = λ way taken. begins_nothing (course way) (r ∷ []) }, sym (append-nil before))

  pub fault_played : {T : Type 0} (why : Halt) (fault : RecordFault) (before after : List ℕ) (o : Result T (Stopping Halt)) → event_of false w.begun r ≡ Err fault → why ≡ halt.Record (records + 1) fault.cause fault.field
      → Halts why before after o → PlaysTo gains takes course next_way p (r ∷ []) q before after o
  fault_played why fault before after (Ok done) says is h = absurd h
  fault_played why fault before after (Err (stop.Stopped said)) says is (same, grown) = (
    stopped_text (stop_by why),
    record {
      given = [];
      gained = none;
      stops = λ way taken.
          subst (λ (h : Halt). Stops (course way) (r ∷ []) h (stopped_text (stop_by why))) (sym (same ∙ is))
          (subst (λ (h : Halt). Stops (course way) (r ∷ []) (halt.Record (records + 1) fault.cause fault.field) (stopped_text (stop_by h))) (sym is) (fault_stops w w records map map r fault says way (was false [] way taken)));
    },
    grown,
  )
  fault_played why fault before after (Err stop.Memory) says is grown = (
    [],
    record { given = []; gained = none; begins = λ way taken. begins_nothing (course way) (r ∷ []) },
    grown ∙ sym (append-nil before),
  )
  fault_played why fault before after (Err stop.Failed) says is h = absurd h

-- ---- the closing lines

closed_text : (m : Meaning) (p : Playing (MessageOf m) (StateOf m)) → (course_of m p).text true [] ≡ closing p
unfolding all_written
closed_text m p = refl

named_now : (m : Meaning) (p : Playing (MessageOf m) (StateOf m)) → (course_of m p).holds [] → AreNamed m p.stands
unfolding all_written
named_now m p here = here

pub closes_so : (w : World) (records : ℕ) (map : Option Map) (fails : Bool) (way : Way) → Takes w records map fails [] way → (course way).holds [] → (course way).text true [] ≡ closing_of w
closes_so w records map fails way t here =
    let ((sees, stands), counted) = t.sees (named_now way.meaning way.playing here) in
    closed_text way.meaning way.playing ∙ closing_same (SaysMessage way.meaning) w way.playing sees.world

pub closes_adds : {T E : Type 0} (text old new : List ℕ) (o : Result T E) → OnOk o (new ≡ old ++ text) → OnErr o (new ≡ old) → Adds text old new o
closes_adds text old new (Ok done) ok err = ok
closes_adds text old new (Err e) ok err = ([], text, refl, err ∙ sym (append-nil old))

-- the ways from the next record on
pub next_records : {T E : Type 0} (w : World) (records next : ℕ) (map : Option Map) (o : Result T E) → OnOk o (next ≡ records + 1)
    → OnOk o ((fails : Bool) (ds : List Given) (way : Way) → Takes w (records + 1) map fails ds way → Takes w next map fails ds way)
next_records w records next map (Ok done) same = λ fails ds way taken. subst (λ (n : ℕ). Takes w n map fails ds way) (sym same) taken
next_records w records next map (Err e) same = tt
