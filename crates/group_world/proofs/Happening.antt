-- From a call to an event that happens: on every understanding at once.
use Rattle.std.proofs.Common.{refl, sym, ap, subst, ◌∙◌, ◌≡◌, ℕ, not, Bool, true, false, is_some, List, [], ◌∷◌, ◌++◌, Option, Some, None, Result, Ok, Err, inl, inr, Box, Global, append-nil}
use Rattle.std.specs.Prelude.{IfSome, IsSome, IsSomeAnd}
use Rattle.std.proofs.lemmas.Bool.{cases_eq}
use Rattle.group_quorum.specs.Voters.{is_in}
use Rattle.values.specs.declared.batch.Batch.{Batch}
use Rattle.values.specs.declared.event.Event.{Event}
use Rattle.values.specs.declared.event.Event.TheVariants as event
use Rattle.schedule_model.specs.Refusals as refusals
use Rattle.trace_text.specs.declared.refused.GroupRefusal.TheVariants as refusal
use Rattle.trace_model.specs.TraceLines.{is_begin}
use Rattle.group_model.specs.Enclave.{HostInput}
use Rattle.group_model.specs.Field.{Field, Reply, Answers, Unreadable, Nothing}
use Rattle.group_model.specs.Group.{Group, Setup, keeps}
use Rattle.group_model.specs.Happens as happening
use Rattle.group_model.specs.Happens.{Passed, Happening, Happened, acts, acts_in, tells}
use Rattle.enclave_host.specs.declared.running.Running.{Running}
use Rattle.enclave_host.specs.Fields.{Map, Calling, Gains, IsInput, SameBut, Steps, WhereTold}
use Rattle.group_world.specs.declared.came.Came as code
use Rattle.group_world.specs.declared.came.Came.TheVariants as came
use Rattle.group_world.specs.declared.came.Unplayed.{Unplayed}
use Rattle.group_world.specs.declared.came.Unplayed.TheVariants as unplayed
use Rattle.group_world.specs.declared.world.World.{World}
use Rattle.group_world.specs.Given.{Given, Content, contents_in}
use Rattle.group_world.specs.Meanings.{Meaning, Until, MessageOf, StateOf, model_of, SaysMessage}
use Rattle.group_world.specs.Plays.{Acts, ActsIn, Calls, Does, IsBatch, IsFailed, IsNamedIn, Keeps, Tells, What}
use Rattle.group_world.specs.Standing.{IsWorld, Runs, Sees}
use Rattle.group_world.proofs.Understood.{IsNamedReply, call_answers, call_fails, call_refuses, named_ask}

pub gains_none : (told : Option (List (List ℕ))) → Gains told told []
gains_none None = tt
gains_none (Some told) = sym (append-nil told)

-- ---- a replica is told

pub named_reply : (m : Meaning) (r : ℕ) (g : Group (MessageOf m) (StateOf m)) (reply : Reply (MessageOf m) (StateOf m)) → IsNamedIn m (happening.replied (model_of m) r g reply) → IsNamedReply m reply
named_reply m r g (Answers batch sent f) named = named
named_reply m r g (Unreadable at f) named = named
named_reply m r g Nothing named = named

-- whether a replica runs is asked of the world
pub runs_same : {M F : Type 0} (says : (from to : ℕ) → List ℕ → M → Type 0) (w : World) (g : Group M F) (r : ℕ) (b : Bool) → IsWorld says w g → is_in w.running.items r ≡ b → is_in g.running r ≡ b
runs_same says w g r b world is = ap (λ (ids : List ℕ). is_in ids r) (sym world.running) ∙ is

module _ (w : World) (map map' : Option Map) (r : ℕ) (bytes : List ℕ) where
  -- it does not run
  pub refused_does : is_in w.running.items r ≡ false → Does (Tells r bytes) w w map map [] (Ok (came.Refused (refusal.NotRunning r)))
  refused_does idle = λ m later g x sees what named.
      let (input, says, is) = what in
      let not_in = runs_same (SaysMessage m) w g r false sees.world idle in
      (g, is ∙ ap (λ (b : Bool). happening.refused_if (model_of m) (not b) (refusals.NotRunning r) g (happening.calls (model_of m) r input)) not_in, sees)

  called_is : (m : Meaning) (g : Group (MessageOf m) (StateOf m)) (input : HostInput (MessageOf m)) → is_in w.running.items r ≡ true → IsWorld (SaysMessage m) w g
      → tells (model_of m) r input g ≡ happening.replied (model_of m) r g ((model_of m).call g.field r input)
  called_is m g input runs world =
      let is = runs_same (SaysMessage m) w g r true world runs in
      ap (λ (b : Bool). happening.refused_if (model_of m) (not b) (refusals.NotRunning r) g (happening.calls (model_of m) r input)) is

  -- it answers by a batch, which is kept
  pub replied_does : (w' : World) (content : List ℕ) (batch : Box Batch Global) (frames : List (List ℕ)) → is_in w.running.items r ≡ true → WhereTold map map' (λ was now. Calling was now r bytes content × SameBut was now r)
      → IsBatch content batch.value frames → Keeps w w' r batch.value frames → Does (Tells r bytes) w w' map map' (Content content ∷ []) (Ok (came.Replied r batch))
  replied_does w' content batch frames runs stepped read kept = λ m later g x sees what named.
      let (input, says, it) = what in
      let is = it ∙ called_is m g input runs sees.world in
      let ask = named_ask m map (Content content) later g.field r input sees.field (named_reply m r g ((model_of m).call g.field r input) (subst (IsNamedIn m) is named)) in
      let a = call_answers m later g.field map map' r bytes content input batch.value frames sees.field says ask stepped read in (
        keeps g r batch.value a.sent a.after,
        is ∙ ap (happening.replied (model_of m) r g) a.answers,
        record { world = kept m g a.sent a.after sees.world a.are; field = a.fits },
      )

  -- it does not answer by one
  pub stopped_does : (w' : World) (told told' : Option (List (List ℕ))) (e : Unplayed) → is_in w.running.items r ≡ true → Calls map map' told told' r bytes (Err e)
      → (given : List Given) × Gains told told' (contents_in given) × Does (Tells r bytes) w w' map map' given (Err e)
  stopped_does w' told told' unplayed.Memory runs (given, gained) = (given, gained, tt)
  stopped_does w' told told' unplayed.FieldFault runs gained = (
    [],
    gained,
    λ m g x sees what named.
        let (input, says, it) = what in
        subst (IsFailed (model_of (Until m))) (sym (it ∙ called_is (Until m) g input runs sees.world ∙ ap (happening.replied (model_of (Until m)) r g) (call_fails m g.field map r input sees.field))) tt,
  )
  stopped_does w' told told' (unplayed.Frame at) runs (content, called, no_batch) = (
    Content content ∷ [],
    called.gained,
    λ m g x sees what named.
        let (input, says, it) = what in
        let is = it ∙ called_is m g input runs sees.world in
        let ask = named_ask m map (Content content) [] g.field r input sees.field (named_reply m r g ((model_of m).call g.field r input) (subst (IsNamedIn m) is named)) in
        let a = call_refuses m [] g.field map map' r bytes content input at sees.field says ask called.stepped no_batch in
        (a.after, is ∙ ap (happening.replied (model_of m) r g) a.answers, a.fits),
  )
  stopped_does w' told told' (unplayed.Limit which) runs h = absurd h

-- ---- one way of speaking of a happening for another

pub does_as : (what this : What) (w w' : World) (map map' : Option Map) (given : List Given) (r : Result code.Came Unplayed)
    → ((m : Meaning) (ds : List Given) (g : Group (MessageOf m) (StateOf m)) (x : Happening (MessageOf m) (StateOf m)) → Sees m w map ds g → what m g x → this m g x)
    → Does this w w' map map' given r → Does what w w' map map' given r
does_as what this w w' map map' given (Ok c) turn h = λ m later g x sees it named. h m later g x sees (turn m (given ++ later) g x sees it) named
does_as what this w w' map map' given (Err (unplayed.Frame at)) turn h = λ m g x sees it named. h m g x sees (turn m given g x sees it) named
does_as what this w w' map map' given (Err unplayed.FieldFault) turn h = λ m g x sees it named. h m g x sees (turn (Until m) given g x sees it) named
does_as what this w w' map map' given (Err unplayed.Memory) turn h = tt
does_as what this w w' map map' given (Err (unplayed.Limit which)) turn h = absurd h

-- and from another world, which is seen as another group
pub does_from : (what this : What) (w w1 w' : World) (map map' : Option Map) (given : List Given) (r : Result code.Came Unplayed)
    → ((m : Meaning) (ds : List Given) (g : Group (MessageOf m) (StateOf m)) (x : Happening (MessageOf m) (StateOf m)) → Sees m w map ds g → what m g x → (g1 : Group (MessageOf m) (StateOf m)) × Sees m w1 map ds g1 × this m g1 x)
    → Does this w1 w' map map' given r → Does what w w' map map' given r
does_from what this w w1 w' map map' given (Ok c) turn h = λ m later g x sees it named. let (g1, seen, so) = turn m (given ++ later) g x sees it in h m later g1 x seen so named
does_from what this w w1 w' map map' given (Err (unplayed.Frame at)) turn h = λ m g x sees it named. let (g1, seen, so) = turn m given g x sees it in h m g1 x seen so named
does_from what this w w1 w' map map' given (Err unplayed.FieldFault) turn h = λ m g x sees it named. let (g1, seen, so) = turn (Until m) given g x sees it in h m g1 x seen so named
does_from what this w w1 w' map map' given (Err unplayed.Memory) turn h = tt
does_from what this w w1 w' map map' given (Err (unplayed.Limit which)) turn h = absurd h

-- ---- before the begin event, and after it

begun_acts : {M F : Type 0} (field : Field M F) (o : Option Setup) (e : Event) (g : Group M F) → is_some o ≡ true → acts_in field o e g ≡ acts field e g
begun_acts field None e g is = cc is
begun_acts field (Some s) e g is = refl

pub once_begun : (w w' : World) (map map' : Option Map) (given : List Given) (e : Event) (result : Result code.Came Unplayed) → w.begun ≡ true
    → Does (Acts e) w w' map map' given result → Does (ActsIn e) w w' map map' given result
once_begun w w' map map' given e result begun h =
    does_as (ActsIn e) (Acts e) w w' map map' given result (λ m ds g x sees it. it ∙ begun_acts (model_of m) g.setup e g (sym sees.world.begun ∙ begun)) h

-- before it nothing happens
idle_acts : {M F : Type 0} (field : Field M F) (o : Option Setup) (e : Event) (g : Group M F) → is_begin e ≡ false → is_some o ≡ false → acts_in field o e g ≡ Happened Passed g
idle_acts field None (event.Begin margin limit voters) g later is = cc later
idle_acts field None (event.Start r) g later is = refl
idle_acts field None (event.Tick r) g later is = refl
idle_acts field None (event.Deliver k) g later is = refl
idle_acts field None (event.Lose k) g later is = refl
idle_acts field None (event.Settle n) g later is = refl
idle_acts field None (event.Crash r) g later is = refl
idle_acts field None (event.Save r) g later is = refl
idle_acts field None (event.Roll r k) g later is = refl
idle_acts field None (event.Join r x) g later is = refl
idle_acts field None (event.Admit r x) g later is = refl
idle_acts field None (event.Remove r x) g later is = refl
idle_acts field None (event.Ask r c n request) g later is = refl
idle_acts field None (event.Want c w) g later is = refl
idle_acts field None (event.Say c r) g later is = refl
idle_acts field None (event.Hear c k) g later is = refl
idle_acts field None (event.Margin r n) g later is = refl
idle_acts field None (event.Again c) g later is = refl
idle_acts field (Some s) e g later is = cc is

pub not_yet : (w : World) (map : Option Map) (e : Event) → is_begin e ≡ false → w.begun ≡ false → Does (ActsIn e) w w map map [] (Ok came.Passed)
not_yet w map e later idle = λ m ds g x sees it named. (g, it ∙ idle_acts (model_of m) g.setup e g later (sym sees.world.begun ∙ idle), sees)

-- ---- who runs after a call

pub some_is : {A : Type 0} (o : Option A) → is_some o ≡ true → IsSome o
some_is None is = absurd cc
some_is (Some a) is = refl

-- who is called runs, and takes the content
pub may_call : (map : Option Map) (ids : List ℕ) (id : ℕ) (bytes : List ℕ) → Runs map ids → is_in ids id ≡ true → IsInput bytes → IfSome map (λ was. IsSome (was id) × IsInput bytes)
may_call None ids id bytes runs is input = tt
may_call (Some was) ids id bytes runs is input = (some_is (was id) (runs id ∙ is), input)

both_run : (c d : Option (Option Running)) (bytes out : List ℕ) → IsSomeAnd c (λ e. IsSomeAnd d (λ f. Steps e bytes f out)) → is_some d ≡ is_some c
both_run None d bytes out h = absurd h
both_run (Some c) None bytes out h = absurd h
both_run (Some c) (Some d) bytes out h = refl

pub runs_called : (map map' : Option Map) (ids : List ℕ) (id : ℕ) (bytes out : List ℕ) → WhereTold map map' (λ was now. Calling was now id bytes out × SameBut was now id) → Runs map ids → Runs map' ids
runs_called None None ids id bytes out stepped running = tt
runs_called None (Some now) ids id bytes out stepped running = absurd stepped
runs_called (Some was) None ids id bytes out stepped running = absurd stepped
runs_called (Some was) (Some now) ids id bytes out (here, others) running = λ other. elim (cases_eq other id) [
  | inl same ↦ rw same (both_run (was id) (now id) bytes out here ∙ running id)
  | inr apart ↦ ap is_some (others other apart) ∙ running other
]

-- whatever is no begin event
pub no_begin : (e : Event) → ((margin limit : ℕ) (voters : List ℕ) → e ≡ event.Begin margin limit voters → ⊥) → is_begin e ≡ false
no_begin (event.Begin margin limit voters) apart = absurd (apart margin limit voters refl)
no_begin (event.Start r) apart = refl
no_begin (event.Tick r) apart = refl
no_begin (event.Deliver k) apart = refl
no_begin (event.Lose k) apart = refl
no_begin (event.Settle n) apart = refl
no_begin (event.Crash r) apart = refl
no_begin (event.Save r) apart = refl
no_begin (event.Roll r k) apart = refl
no_begin (event.Join r x) apart = refl
no_begin (event.Admit r x) apart = refl
no_begin (event.Remove r x) apart = refl
no_begin (event.Ask r c n request) apart = refl
no_begin (event.Want c w) apart = refl
no_begin (event.Say c r) apart = refl
no_begin (event.Hear c k) apart = refl
no_begin (event.Margin r n) apart = refl
no_begin (event.Again c) apart = refl
