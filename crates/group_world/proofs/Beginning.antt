-- From the asks by which replicas start to the events: on every understanding at once.
use Rattle.std.proofs.Common.{arith, refl, sym, ap, subst, ◌∙◌, ◌≡◌, ◌≢◌, ℕ, zero, suc, ◌||◌, ◌&&◌, eqb, Bool, true, false, is_some, List, [], ◌∷◌, ◌++◌, length, map, Option, Some, None, Ok, Err, length-append}
use Rattle.std.specs.List.{list_all}
use Rattle.std.proofs.lemmas.List.Folds.{list_all-append, list_any-append}
use Rattle.values.specs.declared.event.Event.{Event}
use Rattle.values.specs.declared.event.Event.TheVariants as event
use Rattle.group_quorum.specs.Conf.{Conf}
use Rattle.group_quorum.specs.Voters.{conf_of, insert_rising, is_in}
use Rattle.schedule_model.specs.Refusals as refusals
use Rattle.trace_text.specs.declared.refused.GroupRefusal.TheVariants as refusal
use Rattle.group_model.specs.Enclave.{Connect, Learn}
use Rattle.group_model.specs.Field.{Field}
use Rattle.group_model.specs.Group.{Group, Setup, bears, core_of, saves_of}
use Rattle.group_model.specs.Happens as happening
use Rattle.group_model.specs.Happens.{Passed, Happening, Happened, Unanswered, acts, acts_first, acts_in, connected, starts_all, starts_new, refused_if}
use Rattle.trace_model.specs.Session.{Starts as StartsBy}
use Rattle.enclave_host.specs.Fields.{Map}
use Rattle.enclave_host.specs.Words.{wording}
use Rattle.group_world.specs.declared.came.Came.TheVariants as came
use Rattle.group_world.specs.declared.came.Unplayed.{Unplayed}
use Rattle.group_world.specs.declared.came.Unplayed.TheVariants as unplayed
use Rattle.group_world.specs.declared.world.World.{World}
use Rattle.group_world.specs.Given.{Given, Taken}
use Rattle.group_world.specs.Meanings.{Meaning, Until, MessageOf, StateOf, model_of, SaysMessage}
use Rattle.group_world.specs.Plays.{Acts, ActsIn, Does, IsFailed}
use Rattle.group_world.specs.Posted.{is_lost_in, waiting_in}
use Rattle.group_world.specs.Standing.{AreKept, AreLetters, IsWorld, Runs, conf_in}
use Rattle.group_world.specs.Starts.{Enlists, IsStarted, LinksAll, Starts, StartsAll, TakesUp}
use Rattle.group_quorum.proofs.Inserted.{is_in-insert}
use Rattle.group_world.proofs.Starting.{link_unanswered, none_left, runs_as, start_leaves}
use Rattle.group_world.proofs.Understood.{one_start_fails, start_answers}

-- ---- a group begins

-- the group in which these voters have started
abbrev pub begun_group : {M F : Type 0} → Group M F → Conf → ℕ → F → Group M F
begun_group g c limit f =
    record g {
      setup = Some (record { limit = limit; first = c });
      running = c.voters;
      started = c.voters;
      confs = c ∷ g.confs;
      field = f;
    }

and_turn : (a b : Bool) → (a && (b && true)) ≡ (b && a)
and_turn true true = refl
and_turn true false = refl
and_turn false true = refl
and_turn false false = refl

pub takes_up : {M F : Type 0} (says : (from to : ℕ) → List ℕ → M → Type 0) (w w' : World) (g : Group M F) (c : Conf) (limit : ℕ) (f : F) → IsWorld says w g → TakesUp w w' c → IsWorld says w' (begun_group g c limit f)
takes_up says w w' g c limit f world up = record {
  begun = up.begun;
  running = up.running;
  started = λ v. ap (λ ids. is_in ids v) up.started;
  started_count = ap length up.started;
  letters = subst (λ post. AreLetters says post g.messages) (sym up.rest.post) world.letters;
  lost = λ k. ap (λ post. is_lost_in post k) up.rest.post ∙ world.lost k;
  waiting = ap waiting_in up.rest.post ∙ world.waiting;
  answers = subst (λ kept. AreKept kept g.answers) (sym up.rest.answers) world.answers;
  cores = λ client. ap (λ cores. core_of cores client) up.rest.clients ∙ world.cores client;
  core_count = ap length up.rest.clients ∙ world.core_count;
  saves = λ v. ap (λ saves. saves_of saves v) up.rest.saves ∙ world.saves v;
  save_count = ap length up.rest.saves ∙ world.save_count;
  rolled = λ v. ap (λ ids. is_in ids v) up.rest.rolled ∙ world.rolled v;
  confs = λ rolled.
      ap (list_all (bears rolled)) up.confs ∙ list_all-append (bears rolled) (map conf_in w.confs.items) (c ∷ [])
      ∙ and_turn (list_all (bears rolled) (map conf_in w.confs.items)) (bears rolled c) ∙ ap (λ b. bears rolled c && b) (world.confs rolled);
  committed = up.rest.committed ∙ world.committed;
  events = up.rest.events ∙ world.events;
}

first_acts : {M F : Type 0} (field : Field M F) (o : Option Setup) (e : Event) (g : Group M F) → is_some o ≡ false → acts_in field o e g ≡ acts_first field e g
first_acts field None e g is = refl
first_acts field (Some setup) e g is = cc is

module _ (w w' : World) (map map' : Option Map) (given : List Given) (c : Conf) (margin limit : ℕ) (voters : List ℕ) (new : w.begun ≡ false) (made : conf_of margin voters ≡ Ok c) where
  begins_is : (m : Meaning) (g : Group (MessageOf m) (StateOf m)) → IsWorld (SaysMessage m) w g
      → acts_in (model_of m) g.setup (event.Begin margin limit voters) g ≡ Happened Passed (begun_group g c limit (starts_all (model_of m) g.field c limit c.voters))
  begins_is m g world =
      first_acts (model_of m) g.setup (event.Begin margin limit voters) g (sym world.begun ∙ new) ∙ ap (λ made. happening.begins (model_of m) limit made g) made

  pub begins_does : TakesUp w w' c → StartsAll map map' given c limit c.voters (Ok tt) → Does (ActsIn (event.Begin margin limit voters)) w w' map map' given (Ok came.Passed)
  begins_does up starts = λ m later g x sees what named.
      let f = starts_all (model_of m) g.field c limit c.voters in (
        begun_group g c limit f,
        what ∙ begins_is m g sees.world,
        record { world = takes_up (SaysMessage m) w w' g c limit f sees.world up; field = starts m later g.field sees.field },
      )

  pub begin_stops : (e : Unplayed) → StartsAll map map' given c limit c.voters (Err e) → Does (ActsIn (event.Begin margin limit voters)) w w' map map' given (Err e)
  begin_stops unplayed.Memory starts = tt
  begin_stops unplayed.FieldFault starts = λ m g x sees what named.
      subst (IsFailed (model_of (Until m))) (sym (what ∙ begins_is (Until m) g sees.world)) (starts m g.field sees.field)
  begin_stops (unplayed.Frame at) starts = absurd starts
  begin_stops (unplayed.Limit which) starts = absurd starts

-- ---- a learner starts

-- the group in which it has started
abbrev pub enlisted : {M F : Type 0} → Group M F → ℕ → F → Group M F
enlisted g id f = record g { running = insert_rising id g.running; started = id ∷ g.started; field = f }

or_turn : (a b : Bool) → (a || (b || false)) ≡ (b || a)
or_turn true true = refl
or_turn true false = refl
or_turn false true = refl
or_turn false false = refl

pub enlists : {M F : Type 0} (says : (from to : ℕ) → List ℕ → M → Type 0) (w w' : World) (g : Group M F) (id : ℕ) (f : F) → IsWorld says w g → Enlists w w' id → IsWorld says w' (enlisted g id f)
enlists says w w' g id f world e = record {
  begun = e.begun ∙ world.begun;
  running = e.running ∙ ap (insert_rising id) world.running;
  started = λ v.
      ap (λ ids. is_in ids v) e.started ∙ list_any-append (λ x. eqb x v) w.started.items (id ∷ [])
      ∙ or_turn (is_in w.started.items v) (eqb id v) ∙ ap (λ b. eqb id v || b) (world.started v);
  started_count = let all = ap length e.started in let long = length-append w.started.items (id ∷ []) in let same = world.started_count in omega (arith, all, long, same);
  letters = subst (λ post. AreLetters says post g.messages) (sym e.rest.post) world.letters;
  lost = λ k. ap (λ post. is_lost_in post k) e.rest.post ∙ world.lost k;
  waiting = ap waiting_in e.rest.post ∙ world.waiting;
  answers = subst (λ kept. AreKept kept g.answers) (sym e.rest.answers) world.answers;
  cores = λ client. ap (λ cores. core_of cores client) e.rest.clients ∙ world.cores client;
  core_count = ap length e.rest.clients ∙ world.core_count;
  saves = λ v. ap (λ saves. saves_of saves v) e.rest.saves ∙ world.saves v;
  save_count = ap length e.rest.saves ∙ world.save_count;
  rolled = λ v. ap (λ ids. is_in ids v) e.rest.rolled ∙ world.rolled v;
  confs = λ rolled. ap (λ confs. list_all (bears rolled) (map conf_in confs)) e.confs ∙ world.confs rolled;
  committed = e.rest.committed ∙ world.committed;
  events = e.rest.events ∙ world.events;
}

new_is : {M F : Type 0} (field : Field M F) (id : ℕ) (g : Group M F) → id ≢ 0
    → starts_new field id g ≡ refused_if field (is_in g.started id) (refusals.AlreadyStarted id) g (happening.starts field id)
new_is field zero g some = absurd (some refl)
new_is field (suc k) g some = refl

module _ (w : World) (map : Option Map) (id : ℕ) where
  -- 0 starts nothing
  pub zero_does : id ≡ 0 → Does (Acts (event.Start id)) w w map map [] (Ok came.Passed)
  zero_does none = λ m later g x sees what named. (g, what ∙ ap (λ k. starts_new (model_of m) k g) none, sees)

  -- it has started before
  pub used_does : id ≢ 0 → is_in w.started.items id ≡ true → Does (Acts (event.Start id)) w w map map [] (Ok (came.Refused (refusal.AlreadyStarted id)))
  used_does some used = λ m later g x sees what named. (
    g,
    what ∙ new_is (model_of m) id g some
        ∙ ap (λ b. refused_if (model_of m) b (refusals.AlreadyStarted id) g (happening.starts (model_of m) id)) (sym (sees.world.started id) ∙ used),
    sees,
  )

-- once its start failed, nothing is answered
spent_fails : (m : Meaning) (id : ℕ) (ids : List ℕ) (f : StateOf (Until m)) (g : Group (MessageOf (Until m)) (StateOf (Until m))) → f.left ≡ 0 → (model_of (Until m)).has_failed f ≡ true
    → IsFailed (model_of (Until m)) (connected (model_of (Until m)) id ids f (λ after. Happened Passed (enlisted g id after)))
spent_fails m id [] f g left failed = failed
spent_fails m id (r ∷ rs) f g left failed =
    subst (IsFailed (model_of (Until m)))
    (sym (link_unanswered (model_of (Until m)) id r rs f (λ after. Happened Passed (enlisted g id after)) (none_left m f r (Connect id) left))) tt

module _ (w w' : World) (map map' : Option Map) (id : ℕ) (hello : List ℕ) (some : id ≢ 0) (new : is_in w.started.items id ≡ false) (says : wording.content_of hello ≡ Ok (StartsBy (Learn id w.running.items))) where
  starts_is : (m : Meaning) (g : Group (MessageOf m) (StateOf m)) → IsWorld (SaysMessage m) w g
      → acts (model_of m) (event.Start id) g ≡ connected (model_of m) id w.running.items ((model_of m).start g.field (Learn id w.running.items)) (λ f. Happened Passed (enlisted g id f))
  starts_is m g world =
      new_is (model_of m) id g some
      ∙ ap (λ b. refused_if (model_of m) b (refusals.AlreadyStarted id) g (happening.starts (model_of m) id)) (sym (world.started id) ∙ new)
      ∙ ap (λ ids. connected (model_of m) id ids ((model_of m).start g.field (Learn id ids)) (λ f. Happened Passed (enlisted g id f))) (sym world.running)

  -- it was not started
  pub start_stops : (e : Unplayed) → Starts map map' id hello (Err e) → Does (Acts (event.Start id)) w w' map map' [] (Err e)
  start_stops unplayed.Memory start = tt
  start_stops unplayed.FieldFault start = λ m g x sees what named.
      let learn = Learn id w.running.items in
      subst (IsFailed (model_of (Until m))) (sym (what ∙ starts_is (Until m) g sees.world))
      (spent_fails m id w.running.items ((model_of (Until m)).start g.field learn) g (start_leaves m g.field map learn sees.field) (one_start_fails m learn g.field map sees.field))
  start_stops (unplayed.Frame at) start = absurd start
  start_stops (unplayed.Limit which) start = absurd start

  module _ (between : Option Map) (given : List Given) (start : IsStarted map between id hello) where
    -- it was, and all are linked with it
    pub starts_does : LinksAll between map' given id w.running.items (Ok tt) → Enlists w w' id → Does (Acts (event.Start id)) w w' map map' (Taken ∷ given) (Ok came.Passed)
    starts_does links e = λ m later g x sees what named.
        let learn = Learn id w.running.items in
        let f = (model_of m).start g.field learn in
        let l = links m later f (start_answers m (given ++ later) g.field map between learn hello sees.field says start) in (
          enlisted g id l.after,
          what ∙ starts_is m g sees.world ∙ l.links (λ after. Happened Passed (enlisted g id after)),
          record { world = enlists (SaysMessage m) w w' g id l.after sees.world e; field = l.fits },
        )

    -- it was, and one of them was not linked with it
    pub links_stop : (e : Unplayed) → LinksAll between map' given id w.running.items (Err e) → Does (Acts (event.Start id)) w w' map map' (Taken ∷ given) (Err e)
    links_stop unplayed.Memory links = tt
    links_stop unplayed.FieldFault links = λ m g x sees what named.
        let learn = Learn id w.running.items in
        let f = (model_of (Until m)).start g.field learn in
        let next : StateOf (Until m) → Happening (MessageOf (Until m)) (StateOf (Until m)) = λ after. Happened Passed (enlisted g id after) in
        subst (IsFailed (model_of (Until m)))
        (sym (what ∙ starts_is (Until m) g sees.world ∙ links m f next (start_answers (Until m) given g.field map between learn hello sees.field says start))) tt
    links_stop (unplayed.Frame at) links = λ m g x sees what named.
        let learn = Learn id w.running.items in
        let f = (model_of m).start g.field learn in
        let l = links m f (start_answers m given g.field map between learn hello sees.field says start) in
        (l.after, what ∙ starts_is m g sees.world ∙ l.links (λ after. Happened Passed (enlisted g id after)), l.fits)
    links_stop (unplayed.Limit which) links = absurd links

pub runs_enlisted : (map : Option Map) (running then : List ℕ) (id : ℕ) → then ≡ insert_rising id running → Runs map (id ∷ running) → Runs map then
runs_enlisted map running then id is runs = runs_as map (id ∷ running) then (λ v. sym (ap (λ ids. is_in ids v) is ∙ is_in-insert id running v)) runs
