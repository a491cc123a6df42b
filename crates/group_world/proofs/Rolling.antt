-- A replica ends, or goes back to a state that was saved.
use Rattle.std.proofs.Common.{refl, sym, ap, subst, ◌∙◌, ◌≡◌, ◌≢◌, ℕ, ◌==◌, ◌||◌, cond, not, Bool, true, false, is_some, is_none, List, [], ◌∷◌, ◌++◌, Option, Some, None, Ok, Err, inl, inr, Vec, Box, Global}
use Rattle.std.specs.Prelude.{nat_le}
use Rattle.std.proofs.lemmas.Bool.{cases_eq, cond_both, eq-eqb, ne_eqb}
use Rattle.group_quorum.specs.Voters.{is_in}
use Rattle.values.specs.declared.batch.Batch.{Batch}
use Rattle.values.specs.declared.event.Event.TheVariants as event
use Rattle.schedule_model.specs.Refusals as refusals
use Rattle.trace_text.specs.declared.refused.GroupRefusal.TheVariants as refusal
use Rattle.host_inputs.specs.Inputs as read
use Rattle.group_model.specs.Enclave.{Roll}
use Rattle.group_model.specs.Field.{Reply, Answers, Unreadable, Nothing}
use Rattle.group_model.specs.Group.{Group, but, keeps, saves_of}
use Rattle.group_model.specs.Happens as happening
use Rattle.group_model.specs.Happens.{Came, Refused, Replied, Reported, Passed, Happening, Happened, Broken, Unanswered, acts, tells}
use Rattle.enclave_host.specs.Fields.{Map, WhereTold}
use Rattle.group_world.specs.declared.came.Came as code
use Rattle.group_world.specs.declared.came.Came.TheVariants as came
use Rattle.group_world.specs.declared.came.Unplayed.{Unplayed}
use Rattle.group_world.specs.declared.came.Unplayed.TheVariants as unplayed
use Rattle.group_world.specs.declared.world.World.{World}
use Rattle.group_world.specs.Given.{Given, Taken}
use Rattle.group_world.specs.Meanings.{Meaning, Until, MessageOf, StateOf, model_of, AreNamed, Fits, SaysMessage}
use Rattle.group_world.specs.Playable.{IsToldBy}
use Rattle.group_world.specs.Plays.{Acts, Does, IsFailed, IsNamedIn, came_of}
use Rattle.group_world.specs.Rolled.{NotesRoll, after_roll}
use Rattle.group_world.specs.Roster.{IsRoster}
use Rattle.group_world.specs.Standing.{IsWorld, Runs}
use Rattle.group_world.proofs.Happening.{runs_same}
use Rattle.group_world.proofs.Understood.{Stopping, stop_answers, stop_fails}

-- ---- a replica ends

module _ (w : World) (map : Option Map) (r : ℕ) where
  pub idle_crashes : is_in w.running.items r ≡ false → Does (Acts (event.Crash r)) w w map map [] (Ok (came.Refused (refusal.NotRunning r)))
  idle_crashes idle = λ m later g x sees it named.
      let not_in = runs_same (SaysMessage m) w g r false sees.world idle in
      (g, it ∙ ap (λ (b : Bool). happening.refused_if (model_of m) (not b) (refusals.NotRunning r) g (happening.crashes (model_of m) r)) not_in, sees)

  module _ (runs : is_in w.running.items r ≡ true) where
    crash_is : (m : Meaning) (g : Group (MessageOf m) (StateOf m)) → IsWorld (SaysMessage m) w g → acts (model_of m) (event.Crash r) g ≡ happening.crashes (model_of m) r g
    crash_is m g world = ap (λ (b : Bool). happening.refused_if (model_of m) (not b) (refusals.NotRunning r) g (happening.crashes (model_of m) r)) (runs_same (SaysMessage m) w g r true world runs)

    pub crash_fails : (w' : World) (map' : Option Map) → Does (Acts (event.Crash r)) w w' map map' [] (Err unplayed.FieldFault)
    crash_fails w' map' = λ m g x sees it named.
        subst (IsFailed (model_of (Until m))) (sym (it ∙ crash_is (Until m) g sees.world)) (stop_fails m g.field map r sees.field)

    pub crashes : (v : Vec ℕ Global) (h : IsRoster w.begun v.items w.started.items) (map' : Option Map) → WhereTold map map' (λ was now. Stopping was now r) → v.items ≡ but r w.running.items
        → Does (Acts (event.Crash r)) w (record w { running = v; roster = h }) map map' (Taken ∷ []) (Ok came.Passed)
    crashes v h map' stopped left = λ m later g x sees it named.
        let old = sees.world in (
          record g { running = but r g.running; field = (model_of m).stop g.field r },
          it ∙ crash_is m g sees.world,
          record {
            world = record {
              begun = old.begun;
              running = left ∙ ap (but r) old.running;
              started = old.started;
              started_count = old.started_count;
              letters = old.letters;
              lost = old.lost;
              waiting = old.waiting;
              answers = old.answers;
              cores = old.cores;
              core_count = old.core_count;
              saves = old.saves;
              save_count = old.save_count;
              rolled = old.rolled;
              confs = old.confs;
              committed = old.committed;
              events = old.events;
            };
            field = stop_answers m later g.field map map' r sees.field stopped;
          },
        )

-- who runs then
or_by : (x : ℕ) (ids rest : List ℕ) (other : ℕ) → is_in rest other ≡ is_in ids other → is_in (x ∷ rest) other ≡ is_in (x ∷ ids) other
or_by x ids rest other same = ap (λ (b : Bool). (x == other) || b) same

but_other : (ids : List ℕ) (id other : ℕ) → other ≢ id → is_in (but id ids) other ≡ is_in ids other
but_other [] id other apart = refl
but_other (x ∷ ids) id other apart = elim (cases_eq x id) [
  | inl same ↦
      ap (λ (b : Bool). is_in (cond (not b) (x ∷ but id ids) (but id ids)) other) (eq-eqb x id same) ∙ but_other ids id other apart
      ∙ sym (ap (λ (b : Bool). b || is_in ids other) (ne_eqb x other (λ is. apart (sym is ∙ same))))
  | inr different ↦
      ap (λ (b : Bool). is_in (cond (not b) (x ∷ but id ids) (but id ids)) other) (ne_eqb x id different) ∙ or_by x ids (but id ids) other (but_other ids id other apart)
]

but_same : (ids : List ℕ) (id : ℕ) → is_in (but id ids) id ≡ false
but_same [] id = refl
but_same (x ∷ ids) id = elim (cases_eq x id) [
  | inl same ↦ ap (λ (b : Bool). is_in (cond (not b) (x ∷ but id ids) (but id ids)) id) (eq-eqb x id same) ∙ but_same ids id
  | inr different ↦
      ap (λ (b : Bool). is_in (cond (not b) (x ∷ but id ids) (but id ids)) id) (ne_eqb x id different)
      ∙ ap (λ (b : Bool). b || is_in (but id ids) id) (ne_eqb x id different) ∙ but_same ids id
]

pub runs_stopped : (map map' : Option Map) (ids left : List ℕ) (id : ℕ) → WhereTold map map' (λ was now. Stopping was now id) → left ≡ but id ids → Runs map ids → Runs map' left
runs_stopped None None ids left id stopped is running = tt
runs_stopped None (Some now) ids left id stopped is running = absurd stopped
runs_stopped (Some was) None ids left id stopped is running = absurd stopped
runs_stopped (Some was) (Some now) ids left id (gone, others) is running = λ other. elim (cases_eq other id) [
  | inl same ↦ ap (λ (k : ℕ). is_some (now k)) same ∙ ap is_some gone ∙ sym (ap (λ (vs : List ℕ). is_in vs other) is ∙ ap (is_in (but id ids)) same ∙ but_same ids id)
  | inr apart ↦ ap is_some (others other apart) ∙ running other ∙ sym (ap (λ (vs : List ℕ). is_in vs other) is ∙ but_other ids id other apart)
]

-- ---- what is kept of a roll

module _ (m : Meaning) (r : ℕ) (g : Group (MessageOf m) (StateOf m)) where
  abbrev back : Batch → Group (MessageOf m) (StateOf m) → Group (MessageOf m) (StateOf m)
  back batch h = happening.rolled_back (model_of m) r batch h

  rolled_from : (reply : Reply (MessageOf m) (StateOf m)) (c : Came) (h : Group (MessageOf m) (StateOf m)) → happening.replied (model_of m) r g reply ≡ Happened c h
      → happening.rolled (model_of m) r g reply ≡ Happened c (after_roll m c h)
  rolled_from (Answers batch sent f) c h e =
      let same : Replied r batch ≡ c = cc e in
      let there : keeps g r batch sent f ≡ h = cc e in
      λ i. Happened (same i) (after_roll m (same i) (there i))
  rolled_from (Unreadable at f) c h e = absurd (cc e)
  rolled_from Nothing c h e = absurd (cc e)

  rolled_broken : (reply : Reply (MessageOf m) (StateOf m)) (at : ℕ) (f : StateOf m) → happening.replied (model_of m) r g reply ≡ Broken at f → happening.rolled (model_of m) r g reply ≡ Broken at f
  rolled_broken (Answers batch sent f') at f e = absurd (cc e)
  rolled_broken (Unreadable at' f') at f e = e
  rolled_broken Nothing at f e = e

  rolled_fails : (reply : Reply (MessageOf m) (StateOf m)) → IsFailed (model_of m) (happening.replied (model_of m) r g reply) → IsFailed (model_of m) (happening.rolled (model_of m) r g reply)
  rolled_fails (Answers batch sent f) failed =
      let h : Group (MessageOf m) (StateOf m) = keeps g r batch sent f in
      cond_both (is_none batch.refused) (record h { rolled = r ∷ h.rolled }) h (λ (k : Group (MessageOf m) (StateOf m)). (model_of m).has_failed k.field ≡ true) (λ so. failed) (λ not_so. failed)
  rolled_fails (Unreadable at f) failed = failed
  rolled_fails Nothing failed = failed

  named_rolled : (reply : Reply (MessageOf m) (StateOf m)) → IsNamedIn m (happening.rolled (model_of m) r g reply) → IsNamedIn m (happening.replied (model_of m) r g reply)
  named_rolled (Answers batch sent f) named =
      let h : Group (MessageOf m) (StateOf m) = keeps g r batch sent f in
      cond_both (is_none batch.refused) (record h { rolled = r ∷ h.rolled }) h (λ (k : Group (MessageOf m) (StateOf m)). AreNamed m k.field → AreNamed m f) (λ so n. n) (λ not_so n. n) named
  named_rolled (Unreadable at f) named = named
  named_rolled Nothing named = named

after_field : (m : Meaning) (c : Came) (h : Group (MessageOf m) (StateOf m)) → (after_roll m c h).field ≡ h.field
after_field m (Refused refusal) h = refl
after_field m (Replied r batch) h = cond_both (is_none batch.refused) (record h { rolled = r ∷ h.rolled }) h (λ (k : Group (MessageOf m) (StateOf m)). k.field ≡ h.field) (λ so. refl) (λ not_so. refl)
after_field m (Reported client report) h = refl
after_field m Passed h = refl

module _ (w : World) (map : Option Map) (r k : ℕ) where
  pub idle_rolls : is_in w.running.items r ≡ false → Does (Acts (event.Roll r k)) w w map map [] (Ok (came.Refused (refusal.NotRunning r)))
  idle_rolls idle = λ m later g x sees it named.
      let not_in = runs_same (SaysMessage m) w g r false sees.world idle in
      (g, it ∙ ap (λ (b : Bool). happening.refused_if (model_of m) (not b) (refusals.NotRunning r) g (happening.rolls (model_of m) r k)) not_in, sees)

  module _ (runs : is_in w.running.items r ≡ true) where
    roll_is : (m : Meaning) (g : Group (MessageOf m) (StateOf m)) (b : Bool) → IsWorld (SaysMessage m) w g → nat_le k (saves_of w.saves.items r) ≡ b
        → acts (model_of m) (event.Roll r k) g
        ≡ happening.refused_if (model_of m) (not b) (refusals.NoSuchState k) g (λ h. happening.rolled (model_of m) r h ((model_of m).call h.field r (Roll k)))
    roll_is m g b world is =
        ap (λ (b : Bool). happening.refused_if (model_of m) (not b) (refusals.NotRunning r) g (happening.rolls (model_of m) r k)) (runs_same (SaysMessage m) w g r true world runs)
        ∙ ap (λ (b : Bool). happening.refused_if (model_of m) (not b) (refusals.NoSuchState k) g (λ h. happening.rolled (model_of m) r h ((model_of m).call h.field r (Roll k)))) (ap (nat_le k) (sym (world.saves r)) ∙ is)

    pub not_saved : nat_le k (saves_of w.saves.items r) ≡ false → Does (Acts (event.Roll r k)) w w map map [] (Ok (came.Refused (refusal.NoSuchState k)))
    not_saved few = λ m later g x sees it named. (g, it ∙ roll_is m g false sees.world few, sees)

    module _ (enough : nat_le k (saves_of w.saves.items r) ≡ true) (map' : Option Map) (given : List Given) (w1 w' : World) where
      told_is : (m : Meaning) (g : Group (MessageOf m) (StateOf m)) → IsWorld (SaysMessage m) w g → tells (model_of m) r (Roll k) g ≡ happening.replied (model_of m) r g ((model_of m).call g.field r (Roll k))
      told_is m g world = ap (λ (b : Bool). happening.refused_if (model_of m) (not b) (refusals.NotRunning r) g (happening.calls (model_of m) r (Roll k))) (runs_same (SaysMessage m) w g r true world runs)

      named_told : (m : Meaning) (g : Group (MessageOf m) (StateOf m)) (x : Happening (MessageOf m) (StateOf m)) → IsWorld (SaysMessage m) w g → x ≡ acts (model_of m) (event.Roll r k) g → IsNamedIn m x → IsNamedIn m (tells (model_of m) r (Roll k) g)
      named_told m g x world it named =
          subst (IsNamedIn m) (sym (told_is m g world)) (named_rolled m r g ((model_of m).call g.field r (Roll k)) (subst (IsNamedIn m) (it ∙ roll_is m g true world enough) named))

      pub rolls_kept : (c : code.Came) → Does (IsToldBy r (read.Roll k)) w w1 map map' given (Ok c) → NotesRoll w1 w' c → Does (Acts (event.Roll r k)) w w' map map' given (Ok c)
      rolls_kept c does notes = λ m later g x sees it named.
          let (h, so, seen) = does m later g (tells (model_of m) r (Roll k) g) sees refl (named_told m g x sees.world it named) in (
            after_roll m (came_of c) h,
            it ∙ roll_is m g true sees.world enough ∙ rolled_from m r g ((model_of m).call g.field r (Roll k)) (came_of c) h (sym (told_is m g sees.world) ∙ so),
            record { world = notes m h seen.world; field = subst (Fits m map' later) (sym (after_field m (came_of c) h)) seen.field },
          )

      pub rolls_stopped : (e : Unplayed) → Does (IsToldBy r (read.Roll k)) w w1 map map' given (Err e) → Does (Acts (event.Roll r k)) w w' map map' given (Err e)
      rolls_stopped unplayed.Memory does = tt
      rolls_stopped unplayed.FieldFault does = λ m g x sees it named.
          let failed = does m g (tells (model_of (Until m)) r (Roll k) g) sees refl (named_told (Until m) g x sees.world it named) in
          subst (IsFailed (model_of (Until m))) (sym (it ∙ roll_is (Until m) g true sees.world enough))
          (rolled_fails (Until m) r g ((model_of (Until m)).call g.field r (Roll k)) (subst (IsFailed (model_of (Until m))) (told_is (Until m) g sees.world) failed))
      rolls_stopped (unplayed.Frame at) does = λ m g x sees it named.
          let (f, so, fits) = does m g (tells (model_of m) r (Roll k) g) sees refl (named_told m g x sees.world it named) in
          (f, it ∙ roll_is m g true sees.world enough ∙ rolled_broken m r g ((model_of m).call g.field r (Roll k)) at f (sym (told_is m g sees.world) ∙ so), fits)
      rolls_stopped (unplayed.Limit which) does = absurd does

-- ---- who was rolled back

snoc_in : (ids : List ℕ) (r v : ℕ) → is_in (ids ++ r ∷ []) v ≡ is_in (r ∷ ids) v
snoc_in [] r v = refl
snoc_in (x ∷ ids) r v = ap (λ (b : Bool). (x == v) || b) (snoc_in ids r v) ∙ or_swap (x == v) (r == v) (is_in ids v)
  where
    or_swap : (a b c : Bool) → (a || (b || c)) ≡ (b || (a || c))
    or_swap true true c = refl
    or_swap true false c = refl
    or_swap false true c = refl
    or_swap false false c = refl

module _ (w : World) (r : ℕ) (batch : Box Batch Global) where
  pub notes_none : is_none batch.value.refused ≡ false → NotesRoll w w (came.Replied r batch)
  notes_none refused = λ m g world.
      subst (IsWorld (SaysMessage m) w) (sym (ap (λ (b : Bool). cond b (record g { rolled = r ∷ g.rolled }) g) refused)) world

  pub notes_one : (v : Vec ℕ Global) (h : IsRoster w.begun w.running.items w.started.items) → is_none batch.value.refused ≡ true → v.items ≡ w.rolled.items ++ r ∷ [] → NotesRoll w (record w { rolled = v; roster = h }) (came.Replied r batch)
  notes_one v h taken pushed = λ m g old.
      subst (IsWorld (SaysMessage m) (record w { rolled = v; roster = h })) (sym (ap (λ (b : Bool). cond b (record g { rolled = r ∷ g.rolled }) g) taken))
      (record {
        begun = old.begun;
        running = old.running;
        started = old.started;
        started_count = old.started_count;
        letters = old.letters;
        lost = old.lost;
        waiting = old.waiting;
        answers = old.answers;
        cores = old.cores;
        core_count = old.core_count;
        saves = old.saves;
        save_count = old.save_count;
        rolled = λ u. ap (λ (ids : List ℕ). is_in ids u) pushed ∙ snoc_in w.rolled.items r u ∙ ap (λ (b : Bool). (r == u) || b) (old.rolled u);
        confs = old.confs;
        committed = old.committed;
        events = old.events;
      })
