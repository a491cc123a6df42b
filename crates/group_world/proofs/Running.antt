-- A whole source, played from where nothing has started.
use Rattle.std.proofs.Common.{arith, refl, sym, ap, subst, ◌∙◌, ◌≡◌, ◌≢◌, ◌≤◌, ℕ, Bool, true, false, List, [], ◌∷◌, ◌++◌, length, take, Option, Some, None, IfSome, is_some, fold}
use Rattle.std.proofs.lemmas.Bool.{eqb-true}
use Rattle.std.specs.Prelude.{IsSome}
use Rattle.std.specs.Io.KnownBytes.{Appends, Consumes}
use Rattle.record_cutting.specs.Lines.{Record, records_of, whole_records}
use Rattle.record_stream.specs.Course.{Course, Outlook}
use Rattle.record_stream.specs.Ends.{EndsOver, FailedIn, PlayedOver, StoppedFor, Unstopped, limit}
use Rattle.record_stream.specs.Ends as stream
use Rattle.record_stream.specs.declared.source.Ended.{Ended}
use Rattle.record_stream.specs.declared.source.Ended.TheVariants as ended
use Rattle.schedule_model.specs.Quantities as quantity
use Rattle.schedule_model.specs.Quantities.{Quantity}
use Rattle.schedule_model.specs.Written.{Stop, AtRecord, AtLimit, AtFrame, AtField, last_of, stop_of, Written, On, Off, all_written, follow, onto}
use Rattle.group_model.specs.Field.{Field}
use Rattle.group_model.specs.Group.{nothing_started}
use Rattle.group_model.specs.Run.{Enclaves, enclaves, no_enclaves}
use Rattle.replica_model.specs.Linked.{sha_link}
use Rattle.trace_model.specs.Contents.{contents}
use Rattle.trace_model.specs.Trace.{Playing, playing, records_played, record_played}
use Rattle.trace_text.specs.Refused.{quantity_of}
use Rattle.trace_text.specs.declared.stopped.Quantity.TheVariants as counted
use Rattle.enclave_host.specs.Fields.{Gains, Map}
use Rattle.enclave_host.specs.declared.running.Running.{Running}
use Rattle.group_world.specs.declared.halt.Halt.{Halt}
use Rattle.group_world.specs.declared.halt.Halt.TheVariants as halt
use Rattle.group_world.specs.declared.schedule.Played.{Played}
use Rattle.group_world.specs.declared.schedule.Played.TheVariants as end
use Rattle.group_world.specs.declared.schedule.Which.TheVariants as which
use Rattle.group_world.specs.declared.world.World.{World}
use Rattle.group_world.specs.Failing.{Failing, failing}
use Rattle.group_world.specs.Given.{Given, contents_in}
use Rattle.group_world.specs.Halted.{halted_by, quantity_for, stop_by}
use Rattle.group_world.specs.Meanings.{Meaning, OfEnclaves, OfContents, Until, MessageOf, StateOf, model_of, AreNamed, Fits, StandsAt, batch_of}
use Rattle.group_world.specs.Playing.{IsUpTo, Takes, Way, asks_all, course, is_at_field, is_spent, gone_on, next_way}
use Rattle.group_world.specs.Runs.{CutOff, DecidedOver, Decides, Ends, EndsAs, FailedOver, IsWithoutCollision, OverContents, OverEnclaves, RunsOver, WroteLines, any, played_by, played_for, plays, RunsAfter}
use Rattle.group_world.specs.Standing.{IsNew, Runs}
use Rattle.replica_model.specs.Message.{Message}

-- ---- why it ended

-- the field has no answers left
abbrev pub NoMore : (m : Meaning) → StateOf m → Type 0
NoMore OfEnclaves f = Unit {0}
NoMore OfContents f = f ≡ []
NoMore (Until m) f = NoMore m f.inner

none_left : (xs : List (List ℕ)) → length xs ≡ 0 → xs ≡ []
none_left [] e = refl
none_left (x ∷ xs) e = cc e

spent_none : (m : Meaning) (f : StateOf m) → is_spent m f ≡ true → NoMore m f
unfolding is_spent
spent_none OfEnclaves f h = tt
spent_none OfContents f h = none_left f (eqb-true (length f) 0 h)
spent_none (Until m) f h = spent_none m f.inner h

quantity_same : (q : Quantity) → quantity_of (quantity_for q) ≡ q
quantity_same quantity.Events = refl
quantity_same quantity.Messages = refl
quantity_same quantity.Answers = refl
quantity_same quantity.Replicas = refl
quantity_same quantity.States = refl
quantity_same quantity.Clients = refl

same_halt : (a b : Halt) → Some a ≡ Some b → b ≡ a
same_halt a b e = cc e

stopped_none : (m : Meaning) (o : Option Stop) (f : StateOf m) → halted_by o ≡ None → asks_all m o f ≡ true → (o ≡ None) × (is_spent m f ≡ true)
stopped_none m None f none asks = (refl, asks)
stopped_none m (Some (AtRecord number fault)) f none asks = absurd (cc none)
stopped_none m (Some (AtLimit q)) f none asks = absurd (cc none)
stopped_none m (Some (AtFrame at)) f none asks = absurd (cc none)
stopped_none m (Some AtField) f none asks = absurd (cc asks)

stopped_for : (m : Meaning) (o : Option Stop) (f : StateOf m) (h : Halt) → halted_by o ≡ Some h → asks_all m o f ≡ true → (o ≡ Some (stop_by h)) × (is_spent m f ≡ true)
stopped_for m None f h some asks = absurd (cc some)
stopped_for m (Some (AtRecord number fault)) f h some asks =
    let same = same_halt (halt.Record number fault.cause fault.field) h some in
    (ap (λ (h : Halt). Some (stop_by h)) (sym same), asks)
stopped_for m (Some (AtLimit q)) f h some asks =
    let same = same_halt (halt.Limit (quantity_for q)) h some in
    (ap (λ (q : Quantity). Some (AtLimit q)) (sym (quantity_same q)) ∙ ap (λ (h : Halt). Some (stop_by h)) (sym same), asks)
stopped_for m (Some (AtFrame at)) f h some asks =
    let same = same_halt (halt.Frame at) h some in
    (ap (λ (h : Halt). Some (stop_by h)) (sym same), asks)
stopped_for m (Some AtField) f h some asks = absurd (cc some)

-- ---- the course of a whole schedule

module _ (m : Meaning) (f : StateOf m) where
  abbrev pub opening : Way
  opening = record { meaning = m; playing = playing (nothing_started f) }

  module _ (all : List ℕ) (left x y : Option (List ℕ)) where
    abbrev Over : Played → Type 0
    Over result = RunsOver (model_of m) f (AreNamed m) (NoMore m) all left x y result

    none_ends : (rs : List Record) → Unstopped (course opening) rs → Ends (model_of m) f (AreNamed m) (NoMore m) rs None
    none_ends rs (none, asks) =
        let (stopped, spent) = stopped_none m (stop_of (plays (model_of m) f (AreNamed m) (NoMore m) rs)) (last_of (plays (model_of m) f (AreNamed m) (NoMore m) rs)).stands none asks in
        record { stopped = stopped; asked = spent_none m (last_of (plays (model_of m) f (AreNamed m) (NoMore m) rs)).stands spent }

    halt_ends : (rs : List Record) (h : Halt) → StoppedFor (course opening) rs h → Ends (model_of m) f (AreNamed m) (NoMore m) rs (Some (stop_by h))
    halt_ends rs h (some, asks) =
        let (stopped, spent) = stopped_for m (stop_of (plays (model_of m) f (AreNamed m) (NoMore m) rs)) (last_of (plays (model_of m) f (AreNamed m) (NoMore m) rs)).stands h some asks in
        record { stopped = stopped; asked = spent_none m (last_of (plays (model_of m) f (AreNamed m) (NoMore m) rs)).stands spent }

    halted : (h : Halt) → EndsOver (course opening) all left x y (ended.Stopped h) → EndsAs (model_of m) f (AreNamed m) (NoMore m) (Some (stop_by h)) all x y
    halted h said here = let (stopped, text) = said here in (halt_ends (records_of all) h stopped, text)

    wrote : (bytes : List ℕ) → stream.WroteWhole (course opening) bytes x y → WroteLines (model_of m) f (AreNamed m) (NoMore m) bytes x y
    wrote bytes said here = let (unstopped, lines) = said here in (none_ends (whole_records bytes) unstopped, lines)

    cut_off : (read : List ℕ) × Consumes (Some all) left read × stream.CutOff (course opening) read left x y → CutOff (model_of m) f (AreNamed m) (NoMore m) all left x y
    cut_off (read, consumed, cut) = record {
      read = read;
      consumed = consumed;
      written = cut.written;
      of_read = cut.of_read;
      before = cut.ahead.before;
      piece = cut.ahead.piece;
      rest = cut.ahead.rest;
      parts = cut.ahead.parts;
      short = cut.ahead.short;
      lines = cut.ahead.gained;
      gained = cut.gained;
    }

    pub runs_over : (e : Ended Halt) → EndsOver (course opening) all left x y e → Over (played_by e)
    runs_over ended.Done (end, few, said) = (end, few, λ here. let (unstopped, text) = said here in (none_ends (records_of all) unstopped, text))
    runs_over (ended.Stopped (halt.Record number cause field)) said = halted (halt.Record number cause field) said
    runs_over (ended.Stopped (halt.Limit counted.Events)) said = halted (halt.Limit counted.Events) said
    runs_over (ended.Stopped (halt.Limit counted.Messages)) said = halted (halt.Limit counted.Messages) said
    runs_over (ended.Stopped (halt.Limit counted.Answers)) said = halted (halt.Limit counted.Answers) said
    runs_over (ended.Stopped (halt.Limit counted.Replicas)) said = halted (halt.Limit counted.Replicas) said
    runs_over (ended.Stopped (halt.Limit counted.States)) said = halted (halt.Limit counted.States) said
    runs_over (ended.Stopped (halt.Limit counted.Clients)) said = halted (halt.Limit counted.Clients) said
    runs_over (ended.Stopped (halt.Frame at)) said = halted (halt.Frame at) said
    runs_over ended.ReadFault (read, consumed, whole) = (read, consumed, wrote read whole)
    runs_over ended.Limit (long, whole) = (long, wrote (take limit all) whole)
    runs_over ended.Memory cut = cut_off cut
    runs_over ended.WriteFault cut = cut_off cut
    runs_over ended.Failed cut = cut_off cut

  -- a group of which nothing has started may take it
  pub opening_takes : (fails : Bool) (w : World) (map : Option Map) (given : List Given) → IsUpTo fails m → IsNew w → Fits m map given f → Takes w 0 map fails given opening
  opening_takes fails w map given up_to new fits = record {
    up_to = up_to;
    stands = refl;
    sees = λ named. ((record { world = new m f; field = fits }, refl), refl);
  }

-- ---- the way after all records

module _ (m : Meaning) where
  abbrev P : Type 0
  P = Playing (MessageOf m) (StateOf m)

  -- a text that goes on, by where it then stands
  abbrev GoesTo : Written P → P → Type 0
  GoesTo w q = (text : List ℕ) × (w ≡ On text q)

  onto_goes : (text : List ℕ) (w : Written P) (q : P) → GoesTo (onto text w) q → GoesTo w q
  onto_goes text (On more p) q (all, is) = (more, let same : p ≡ q = on_same (text ++ more) all p q is in ap (λ (p : P). On more p) same)
    where
      on_same : (a b : List ℕ) (p q : P) → (let one : Written P = On a p in one ≡ On b q) → p ≡ q
      on_same a b p q is = ap last_of is
  onto_goes text (Off more stop p) q (all, is) = absurd (never (text ++ more) all stop p q is)
    where
      never : (a b : List ℕ) (stop : Stop) (p q : P) → (let one : Written P = Off a stop p in one ≡ On b q) → ⊥
      never a b stop p q is = cc is

  -- the first record goes on, and then the others
  follow_goes : (w : Written P) (next : P → Written P) (q : P) → GoesTo (follow w next) q → (p : P) × GoesTo w p × GoesTo (next p) q
  follow_goes (On text p) next q goes = (p, (text, refl), onto_goes text (next p) q goes)
  follow_goes (Off text stop p) next q (all, is) = absurd (cc is)

  pub after_all : (rs : List Record) (p q : P) → GoesTo (records_played (model_of m) p rs) q
      → fold next_way (record { meaning = m; playing = p }) rs ≡ record { meaning = m; playing = q }
  unfolding all_written
  after_all [] p q (text, is) = ap (λ (w : Written P). let way : Way = record { meaning = m; playing = last_of w } in way) is
  after_all (r ∷ rs) p q goes =
      let (v, (text, is), rest) = follow_goes (record_played (model_of m) p r) (λ v. records_played (model_of m) v rs) q goes in
      ap (λ (w : Written P). fold next_way (record { meaning = m; playing = gone_on m w }) rs) is ∙ after_all rs v q rest

  unstopped_goes : (w : Written P) → stop_of w ≡ None → GoesTo w (last_of w)
  unstopped_goes (On text p) none = (text, refl)
  unstopped_goes (Off text stop p) none = cc none

-- ---- which end comes

module _ {M F : Type 0} (field : Field M F) (f : F) (named spent : F → Type 0) (all : List ℕ) (left x y : Option (List ℕ)) where
  ends_decide : (o : Option Stop) → EndsAs field f named spent o all x y → Decides field f named spent all (played_for o)
  ends_decide o said here = let (ends, text) = said here in sym (ap played_for ends.stopped)

  pub decides : (r : Played) → RunsOver field f named spent all left x y r → length all ≤ limit → r ≢ end.Memory → r ≢ end.ReadFault → r ≢ end.WriteFault → r ≢ end.FieldFault
      → Decides field f named spent all r
  decides end.Done (stop, few, said) small memory read write asked = ends_decide None said
  decides (end.Schedule line cause at) said small memory read write asked = ends_decide (Some (AtRecord line (record { cause = cause; field = at }))) said
  decides (end.Limit which.Bytes) (long, whole) small memory read write asked = absurd (omega arith)
  decides (end.Limit which.Events) said small memory read write asked = ends_decide (Some (AtLimit quantity.Events)) said
  decides (end.Limit which.Messages) said small memory read write asked = ends_decide (Some (AtLimit quantity.Messages)) said
  decides (end.Limit which.Answers) said small memory read write asked = ends_decide (Some (AtLimit quantity.Answers)) said
  decides (end.Limit which.Replicas) said small memory read write asked = ends_decide (Some (AtLimit quantity.Replicas)) said
  decides (end.Limit which.States) said small memory read write asked = ends_decide (Some (AtLimit quantity.States)) said
  decides (end.Limit which.Clients) said small memory read write asked = ends_decide (Some (AtLimit quantity.Clients)) said
  decides (end.Frame at) said small memory read write asked = ends_decide (Some (AtFrame at)) said
  decides end.Memory said small memory read write asked = absurd (memory refl)
  decides end.ReadFault said small memory read write asked = absurd (read refl)
  decides end.WriteFault said small memory read write asked = absurd (write refl)
  decides end.FieldFault said small memory read write asked = absurd (asked refl)

-- ---- the fields that tell something

none_stands : (id : ℕ) (c : Option (Option Running)) → c ≡ None → StandsAt id c None
none_stands id None is = tt
none_stands id (Some c) is = cc is

-- nothing runs in a field that tells who runs
abbrev pub Idle : Option Map → Type 0
Idle map = IfSome map (λ now. (id : ℕ) → now id ≡ None)

fits_none : (map : Option Map) (given : List Given) → IsSome map → Idle map → Fits OfEnclaves map given no_enclaves
unfolding Fits
fits_none None given told idle = cc told
fits_none (Some now) given told idle = λ id. none_stands id (now id) (idle id)

fits_until : (map : Option Map) (given : List Given) → IsSome map → Idle map → Fits (Until OfEnclaves) map given (record { inner = no_enclaves; left = length given; failed = false })
unfolding Fits
fits_until map given told idle = (fits_none map given told idle, (refl, refl))

fits_contents : (map : Option Map) (given : List Given) → Fits OfContents map given (contents_in given)
unfolding Fits
fits_contents map given = refl

-- of a new world nobody runs
pub idle_runs : (w : World) (map : Option Map) → IsNew w → Idle map → Runs map w.running.items
idle_runs w map new idle =
    let stands = new OfContents [] in
    subst (Runs map) (sym stands.running) (nobody map idle)
  where
    nobody : (map : Option Map) → Idle map → Runs map []
    nobody None idle = tt
    nobody (Some now) idle = λ id. ap is_some (idle id)

as_enclaves : (all : List ℕ) (left x y : Option (List ℕ)) (r : Played) → RunsOver (model_of OfEnclaves) no_enclaves (AreNamed OfEnclaves) (NoMore OfEnclaves) all left x y r → OverEnclaves all left x y r
unfolding model_of AreNamed
as_enclaves all left x y r h = h

as_contents : (given : List (List ℕ)) (all : List ℕ) (left x y : Option (List ℕ)) (r : Played) → RunsOver (model_of OfContents) given (AreNamed OfContents) (NoMore OfContents) all left x y r
    → RunsOver (contents batch_of) given any (λ later. later ≡ []) all left x y r
unfolding model_of AreNamed
as_contents given all left x y r h = h

at_field : (o : Option Stop) → is_at_field o ≡ true → o ≡ Some AtField
at_field (Some AtField) is = refl
at_field None is = cc is
at_field (Some (AtRecord number fault)) is = cc is
at_field (Some (AtLimit passed)) is = cc is
at_field (Some (AtFrame at)) is = cc is

-- a field that answers so many asks, and fails in the next
abbrev until : ℕ → Failing Enclaves
until n = record { inner = no_enclaves; left = n; failed = false }

failing_ends : (n : ℕ) (all : List ℕ) (x y : Option (List ℕ))
    → (let a : Course Halt = course (opening (Until OfEnclaves) (until n)) in
    a.holds (records_of all) → FailedIn a (records_of all) × Appends x y (a.text true (records_of all)))
    → EndsAs (failing (enclaves sha_link)) (until n) (λ s. IsWithoutCollision s.inner) any (Some AtField) all x y
unfolding model_of AreNamed
failing_ends n all x y h here =
    let (failed, text) = h here in
    let last = plays (failing (enclaves sha_link)) (until n) (λ s. IsWithoutCollision s.inner) any (records_of all) in
    (record { stopped = at_field (stop_of last) failed; asked = tt }, text)

some_as : {A : Type 0} (o : Option A) (P Q : A → Type 0) → ((x : A) → P x → Q x) → IfSome o P → IfSome o Q
some_as None P Q turn h = tt
some_as (Some x) P Q turn h = turn x h

some_all : {A : Type 0} (o : Option A) (P : A → Type 0) → ((x : A) → P x) → IfSome o P
some_all None P h = tt
some_all (Some x) P h = h x

-- what the engine says of a player is said of a world and its field
module _ (S : Type 0) (gains : S → S → List Given → Type 0) (takes : S → Outlook Way Given) (p q : S) (w : World) (map : Option Map) (told told' : Option (List (List ℕ))) (new : IsNew w)
    (gained_is : (given : List Given) → gains p q given → Gains told told' (contents_in given))
    (taken_is : (fails : Bool) (given : List Given) (way : Way) → Takes w 0 map fails given way → takes p fails given way)
    (left left' x y : Option (List ℕ)) (e : Ended Halt) (played : IfSome left (λ all. PlayedOver gains takes course next_way p q all left' x y e)) where
  abbrev Engine : List ℕ → Type 0
  Engine all = PlayedOver gains takes course next_way p q all left' x y e

  enclaves_run : Idle map → (all : List ℕ) → Engine all → IsSome map → OverEnclaves all left' x y (played_by e)
  enclaves_run idle all h told =
      as_enclaves all left' x y (played_by e)
      (runs_over OfEnclaves no_enclaves all left' x y e
      (h.ends (opening OfEnclaves no_enclaves) (taken_is false h.given _ (opening_takes OfEnclaves no_enclaves false w map h.given tt new (fits_none map h.given told idle)))))

  pub over_enclaves : Idle map → IfSome left (λ all. IsSome map → OverEnclaves all left' x y (played_by e))
  over_enclaves idle = some_as left Engine (λ all. IsSome map → OverEnclaves all left' x y (played_by e)) (enclaves_run idle) played

  failed_run : Idle map → e ≡ ended.Failed → (all : List ℕ) → Engine all → IsSome map → FailedOver told told' all x y
  failed_run idle is all h here = (
    h.given,
    gained_is h.given h.gained,
    failing_ends (length h.given) all x y
        (h.fails is (opening (Until OfEnclaves) (until (length h.given)))
        (taken_is true h.given _ (opening_takes (Until OfEnclaves) (until (length h.given)) true w map h.given tt new (fits_until map h.given here idle)))),
  )

  pub over_failed : Idle map → e ≡ ended.Failed → IfSome left (λ all. IsSome map → FailedOver told told' all x y)
  over_failed idle is = some_as left Engine (λ all. IsSome map → FailedOver told told' all x y) (failed_run idle is) played

  contents_run : (all : List ℕ) (h : Engine all) → RunsOver (contents batch_of) (contents_in h.given) any (λ later. later ≡ []) all left' x y (played_by e)
  contents_run all h =
      as_contents (contents_in h.given) all left' x y (played_by e)
      (runs_over OfContents (contents_in h.given) all left' x y e
      (h.ends (opening OfContents (contents_in h.given)) (taken_is false h.given _ (opening_takes OfContents (contents_in h.given) false w map h.given tt new (fits_contents map h.given)))))

  -- the contents that were gained
  gained_all : (told told' : Option (List (List ℕ))) (given : List (List ℕ)) (P : List (List ℕ) → Type 0) → Gains told told' given → P given → IfSome told (λ was. (given : List (List ℕ)) × (told' ≡ Some (was ++ given)) × P given)
  gained_all None told' given P gained h = tt
  gained_all (Some was) None given P gained h = absurd gained
  gained_all (Some was) (Some now) given P gained h = (given, ap Some gained, h)

  pub over_contents : IfSome left (λ all. OverContents told told' all left' x y (played_by e))
  over_contents = some_as left Engine (λ all. OverContents told told' all left' x y (played_by e))
      (λ all h. gained_all told told' (contents_in h.given) (λ given. RunsOver (contents batch_of) given any (λ later. later ≡ []) all left' x y (played_by e)) (gained_is h.given h.gained) (contents_run all h))
      played

  pub over_decided : Idle map → (r : Played) → r ≡ played_by e → IfSome left (λ all. length all ≤ limit → r ≢ end.Memory → r ≢ end.ReadFault → r ≢ end.WriteFault → r ≢ end.FieldFault → DecidedOver map told told' all r)
  over_decided idle r is = some_as left Engine (λ all. length all ≤ limit → r ≢ end.Memory → r ≢ end.ReadFault → r ≢ end.WriteFault → r ≢ end.FieldFault → DecidedOver map told told' all r)
      (λ all h small memory read write asked. record {
        enclaves_decide = λ told.
            decides (enclaves sha_link) no_enclaves IsWithoutCollision any all left' x y r (subst (OverEnclaves all left' x y) (sym is) (enclaves_run idle all h told)) small memory read write asked;
        contents_decide = gained_all told told' (contents_in h.given) (λ given. Decides (contents batch_of) given any (λ later. later ≡ []) all r) (gained_is h.given h.gained)
            (decides (contents batch_of) (contents_in h.given) any (λ later. later ≡ []) all left' x y r
            (subst (RunsOver (contents batch_of) (contents_in h.given) any (λ later. later ≡ []) all left' x y) (sym is) (contents_run all h)) small memory read write asked);
      })
      played

  -- ---- who runs at the end

  runs_after : (all : List ℕ) (h : Engine all) → e ≡ ended.Done → IsSome map → Idle map → (w' : World) (records : ℕ) (map' : Option Map)
      → ((way : Way) → takes q false [] way → Takes w' records map' false [] way) → RunsAfter all map'
  unfolding model_of AreNamed Fits
  runs_after all h is told idle w' records map' was here =
      let way = opening OfEnclaves no_enclaves in
      let rs = records_of all in
      let start : Playing Message Enclaves = playing (nothing_started no_enclaves) in
      let taken = taken_is false h.given way (opening_takes OfEnclaves no_enclaves false w map h.given tt new (fits_none map h.given told idle)) in
      let (end, few, said) = subst (λ (e : Ended Halt). EndsOver (course way) all left' x y e) is (h.ends way taken) in
      let (unstopped, text) = said here in
      let (none, spent) = stopped_none OfEnclaves (stop_of (records_played (enclaves sha_link) start rs)) (last_of (records_played (enclaves sha_link) start rs)).stands unstopped.0 unstopped.1 in
      let last = last_of (records_played (enclaves sha_link) start rs) in
      let same = after_all OfEnclaves rs start last (unstopped_goes OfEnclaves (records_played (enclaves sha_link) start rs) none) in
      let t = was (record { meaning = OfEnclaves; playing = last }) (subst (takes q false []) same (h.stays is way taken)) in
      let ((sees, stands), counted) = t.sees here in
      sees.field

  pub over_replicas : Idle map → e ≡ ended.Done → (w' : World) (records : ℕ) (map' : Option Map) → ((way : Way) → takes q false [] way → Takes w' records map' false [] way)
      → IfSome left (λ all. IsSome map → RunsAfter all map')
  over_replicas idle is w' records map' was = some_as left Engine (λ all. IsSome map → RunsAfter all map')
      (λ all h here. runs_after all h is here idle w' records map' was)
      played

-- ---- faults of the whole are those of the engine

pub done_by : (e : Ended Halt) → played_by e ≡ end.Done → e ≡ ended.Done
done_by ended.Done is = refl
done_by (ended.Stopped (halt.Record n c f)) is = cc is
done_by (ended.Stopped (halt.Limit q)) is = cc is
done_by (ended.Stopped (halt.Frame at)) is = cc is
done_by ended.ReadFault is = cc is
done_by ended.Memory is = cc is
done_by ended.WriteFault is = cc is
done_by ended.Limit is = cc is
done_by ended.Failed is = cc is

pub read_by : (e : Ended Halt) → played_by e ≡ end.ReadFault → e ≡ ended.ReadFault
read_by ended.ReadFault is = refl
read_by ended.Done is = cc is
read_by (ended.Stopped (halt.Record n c f)) is = cc is
read_by (ended.Stopped (halt.Limit q)) is = cc is
read_by (ended.Stopped (halt.Frame at)) is = cc is
read_by ended.Memory is = cc is
read_by ended.WriteFault is = cc is
read_by ended.Limit is = cc is
read_by ended.Failed is = cc is

pub write_by : (e : Ended Halt) → played_by e ≡ end.WriteFault → e ≡ ended.WriteFault
write_by ended.WriteFault is = refl
write_by ended.Done is = cc is
write_by (ended.Stopped (halt.Record n c f)) is = cc is
write_by (ended.Stopped (halt.Limit q)) is = cc is
write_by (ended.Stopped (halt.Frame at)) is = cc is
write_by ended.Memory is = cc is
write_by ended.ReadFault is = cc is
write_by ended.Limit is = cc is
write_by ended.Failed is = cc is

pub field_by : (e : Ended Halt) → played_by e ≡ end.FieldFault → e ≡ ended.Failed
field_by ended.Failed is = refl
field_by ended.Done is = cc is
field_by (ended.Stopped (halt.Record n c f)) is = cc is
field_by (ended.Stopped (halt.Limit q)) is = cc is
field_by (ended.Stopped (halt.Frame at)) is = cc is
field_by ended.Memory is = cc is
field_by ended.ReadFault is = cc is
field_by ended.WriteFault is = cc is
field_by ended.Limit is = cc is

-- a source, and premises that its bytes do not name
pub under : {A : Type 0} (o : Option A) (P Q : A → Type 0) → ((x : A) → P x → Q x) → IfSome o P → IfSome o Q
under o P Q turn h = some_as o P Q turn h
