-- The events of clients, on every understanding at once.
use Rattle.std.proofs.Common.{refl, sym, ap, subst, ◌∙◌, ◌≡◌, ℕ, zero, suc, cond, not, Bool, true, false, List, [], ◌∷◌, length, slice_get, Option, Some, None, Result, Ok, Err, option_and_then, unwrap_or, MatchOption}
use Rattle.values.specs.declared.event.Event.TheVariants as event
use Rattle.values.specs.declared.ids.ClientId.{ClientId}
use Rattle.values.specs.declared.message.Answer.{Answer}
use Rattle.values.specs.declared.want.Report.{Report}
use Rattle.values.specs.declared.want.Want.{Want}
use Rattle.values.specs.declared.want.WantFault.{WantFault}
use Rattle.schedule_model.specs.Client.{Core, heard, new_core, said, wanted}
use Rattle.schedule_model.specs.Refusals as refusals
use Rattle.trace_text.specs.Refused.{meant}
use Rattle.trace_text.specs.declared.refused.GroupRefusal.{GroupRefusal}
use Rattle.trace_text.specs.declared.refused.GroupRefusal.TheVariants as refusal
use Rattle.host_inputs.specs.Inputs as read
use Rattle.group_model.specs.Enclave.{Client}
use Rattle.group_model.specs.Field.{Field}
use Rattle.group_model.specs.Group.{Group, Answered, Hearing, core_of, is_client, numbered, put_core}
use Rattle.group_model.specs.Happens as happening
use Rattle.group_model.specs.Happens.{Came, Refused, Passed, Reported, Happening, Happened, Broken, Unanswered, acts}
use Rattle.enclave_host.specs.Fields.{Map}
use Rattle.group_world.specs.declared.answered.Answered.{Answered as Kept}
use Rattle.group_world.specs.declared.came.Came as code
use Rattle.group_world.specs.declared.came.Came.TheVariants as came
use Rattle.group_world.specs.declared.came.Unplayed.{Unplayed}
use Rattle.group_world.specs.declared.world.World.{World}
use Rattle.group_world.specs.Cores.{Cores, FindsAnswer, HearsAnswer, PutsCore, TakesWant, heard_by}
use Rattle.group_world.specs.Given.{Given}
use Rattle.group_world.specs.Meanings.{Meaning, MessageOf, StateOf, model_of, SaysMessage}
use Rattle.group_world.specs.Playable.{IsToldBy}
use Rattle.group_world.specs.Plays.{Acts, Does, came_of}
use Rattle.group_world.specs.Roster.{IsRoster}
use Rattle.group_world.specs.Standing.{AreKept, IsKept, IsWorld}
use Rattle.group_world.proofs.Happening.{does_as}
use Rattle.group_world.proofs.CoresLemmas.{puts_alike, puts_as_many}

-- ---- other cores in the same world

abbrev Roster : World → Type 0
Roster w = IsRoster w.begun w.running.items w.started.items

abbrev with_clients : (w : World) → Roster w → Cores → World
with_clients w h cs = record w { clients = cs; roster = h }

module _ {M F : Type 0} (says : (from to : ℕ) → List ℕ → M → Type 0) (w : World) (h : Roster w) (g : Group M F) (cs gs : Cores) (stands : IsWorld says w g)
    (alike : (c : ClientId) → core_of cs c ≡ core_of gs c) (as_many : length cs ≡ length gs) where
  with_cores : (hs : List Hearing) → IsWorld says (with_clients w h cs) (record g { cores = gs; hearings = hs })
  with_cores hs = record {
    begun = stands.begun;
    running = stands.running;
    started = stands.started;
    started_count = stands.started_count;
    letters = stands.letters;
    lost = stands.lost;
    waiting = stands.waiting;
    answers = stands.answers;
    cores = alike;
    core_count = as_many;
    saves = stands.saves;
    save_count = stands.save_count;
    rolled = stands.rolled;
    confs = stands.confs;
    committed = stands.committed;
    events = stands.events;
  }

-- cores that are the same
same_cores : {M F : Type 0} (says : (from to : ℕ) → List ℕ → M → Type 0) (w : World) (h : Roster w) (g : Group M F) (cs : Cores) → cs ≡ w.clients → IsWorld says w g → IsWorld says (with_clients w h cs) g
same_cores says w h g cs same stands = record {
  begun = stands.begun;
  running = stands.running;
  started = stands.started;
  started_count = stands.started_count;
  letters = stands.letters;
  lost = stands.lost;
  waiting = stands.waiting;
  answers = stands.answers;
  cores = λ c. ap (λ (xs : Cores). core_of xs c) same ∙ stands.cores c;
  core_count = ap length same ∙ stands.core_count;
  saves = stands.saves;
  save_count = stands.save_count;
  rolled = stands.rolled;
  confs = stands.confs;
  committed = stands.committed;
  events = stands.events;
}

-- the client's core in the world is put in the group too
module _ {M F : Type 0} (says : (from to : ℕ) → List ℕ → M → Type 0) (w : World) (h : Roster w) (g : Group M F) (c : ClientId) (core : Core) (cs : Cores) (stands : IsWorld says w g) (puts : PutsCore w.clients c core cs) where
  with_core : (hs : List Hearing) → IsWorld says (with_clients w h cs) (record g { cores = put_core g.cores c core; hearings = hs })
  with_core hs =
      with_cores says w h g cs (put_core g.cores c core) stands (λ d. puts.cores d ∙ puts_alike w.clients g.cores c core stands.cores d)
      (puts.count ∙ puts_as_many w.clients g.cores c core stands.cores stands.core_count) hs

-- ---- a want

module _ (w : World) (map : Option Map) (c : ClientId) (want : Want) where
  wanted_is : (m : Meaning) (g : Group (MessageOf m) (StateOf m)) → IsWorld (SaysMessage m) w g
      → wanted (unwrap_or (core_of g.cores c) new_core) want ≡ wanted (unwrap_or (core_of w.clients c) new_core) want
  wanted_is m g world = ap (λ (o : Option Core). wanted (unwrap_or o new_core) want) (sym (world.cores c))

  want_taken : (h : Roster w) (cs : Cores) (core : Core) → wanted (unwrap_or (core_of w.clients c) new_core) want ≡ Ok core → PutsCore w.clients c core cs
      → Does (Acts (event.Want c want)) w (with_clients w h cs) map map [] (Ok came.Passed)
  want_taken h cs core taken puts = λ m later g x sees it named. (
    record g { cores = put_core g.cores c core },
    it ∙ ap (λ (r : Result Core WantFault). happening.wants (model_of m) c r g) (wanted_is m g sees.world ∙ taken),
    record { world = with_core (SaysMessage m) w h g c core cs sees.world puts g.hearings; field = sees.field },
  )

  want_refused : (h : Roster w) (cs : Cores) (fault : WantFault) (r : GroupRefusal) → wanted (unwrap_or (core_of w.clients c) new_core) want ≡ Err fault → cs ≡ w.clients
      → ((m : Meaning) → meant r ≡ happening.refusal_of (model_of m) fault) → Does (Acts (event.Want c want)) w (with_clients w h cs) map map [] (Ok (came.Refused r))
  want_refused h cs fault r taken same means = λ m later g x sees it named. (
    g,
    it ∙ ap (λ (r : Result Core WantFault). happening.wants (model_of m) c r g) (wanted_is m g sees.world ∙ taken) ∙ ap (λ (q : refusals.GroupRefusal). Happened (Refused q) g) (sym (means m)),
    record { world = same_cores (SaysMessage m) w h g cs same sees.world; field = sees.field },
  )

  -- what the client's core was asked, and what it answered
  pub taken_does : (h : Roster w) (cs : Cores) (copy : Want) (r : Result (Unit {0}) WantFault) (done : Unit {0}) → copy ≡ want → r ≡ Ok done → TakesWant w.clients c copy cs (Ok r)
      → Does (Acts (event.Want c want)) w (with_clients w h cs) map map [] (Ok came.Passed)
  taken_does h cs copy r done same is takes =
      let (core, taken, puts) = subst (λ (x : Want). TakesWant {T = Unit {0}} w.clients c x cs (Ok (Ok done))) same (subst (λ (x : Result (Unit {0}) WantFault). TakesWant w.clients c copy cs (Ok x)) is takes) in
      want_taken h cs core taken puts

  pub fault_does : (h : Roster w) (cs : Cores) (copy : Want) (r : Result (Unit {0}) WantFault) (fault : WantFault) (told : GroupRefusal) → copy ≡ want → r ≡ Err fault → TakesWant w.clients c copy cs (Ok r)
      → ((m : Meaning) → meant told ≡ happening.refusal_of (model_of m) fault) → Does (Acts (event.Want c want)) w (with_clients w h cs) map map [] (Ok (came.Refused told))
  fault_does h cs copy r fault told same is takes means =
      let (taken, unchanged) = subst (λ (x : Want). TakesWant {T = Unit {0}} w.clients c x cs (Ok (Err fault))) same (subst (λ (x : Result (Unit {0}) WantFault). TakesWant w.clients c copy cs (Ok x)) is takes) in
      want_refused h cs fault told taken unchanged means

-- ---- an answer

KeptAt : Option Kept → Option Answered → Type 0
KeptAt None None = Unit {0}
KeptAt None (Some g) = ⊥
KeptAt (Some k) None = ⊥
KeptAt (Some k) (Some g) = IsKept k g

kept_at : (ks : List Kept) (gs : List Answered) → AreKept ks gs → (i : ℕ) → KeptAt (slice_get ks i) (slice_get gs i)
unfolding KeptAt
kept_at [] [] are i = tt
kept_at [] (g ∷ gs) are i = absurd are
kept_at (k ∷ ks) [] are i = absurd are
kept_at (k ∷ ks) (g ∷ gs) are zero = are.0
kept_at (k ∷ ks) (g ∷ gs) are (suc i) = kept_at ks gs are.1 i

kept_numbered : (ks : List Kept) (gs : List Answered) → AreKept ks gs → (k : ℕ) → KeptAt (numbered ks k) (numbered gs k)
unfolding KeptAt
kept_numbered ks gs are zero = tt
kept_numbered ks gs are (suc k) = kept_at ks gs are k

module _ {M F : Type 0} (field : Field M F) (c : ClientId) (k : ℕ) (g : Group M F) where
  -- what the group does by what the world finds
  HearsBy : Option Answered → Result (ℕ × Answer) refusals.GroupRefusal → Type 0
  HearsBy p (Err refusal) = happening.hears field c k p g ≡ Happened (Refused refusal) g
  HearsBy p (Ok found) = (a : Answered) × (happening.hears field c k p g ≡ happening.hears_with field c a (core_of g.cores c) g) × (a.number ≡ found.0) × (a.answer ≡ found.1)

  hears_kept : (kept : Kept) (a : Answered) → IsKept kept a → (b : Bool) → is_client kept.client c ≡ b
      → HearsBy (Some a) (cond b (Ok (kept.number, kept.answer)) (Err (refusals.NotYours k)))
  unfolding HearsBy
  hears_kept kept a is true mine = (
    a,
    ap (λ (b : Bool). happening.refused_if field (not b) (refusals.NotYours k) g (happening.hears_with field c a (core_of g.cores c))) (ap (λ (d : ClientId). is_client d c) (sym is.client) ∙ mine),
    sym is.number,
    sym is.answer,
  )
  hears_kept kept a is false other =
      ap (λ (b : Bool). happening.refused_if field (not b) (refusals.NotYours k) g (happening.hears_with field c a (core_of g.cores c))) (ap (λ (d : ClientId). is_client d c) (sym is.client) ∙ other)

  hears_by : (o : Option Kept) (p : Option Answered) → KeptAt o p → HearsBy p (heard_by k c o)
  unfolding KeptAt HearsBy
  hears_by None None at = refl
  hears_by None (Some a) at = absurd at
  hears_by (Some kept) None at = absurd at
  hears_by (Some kept) (Some a) at = hears_kept kept a at (is_client kept.client c) refl

  -- what the client then does
  told_is : (core : Core) (a : Answered) (h : Core × Option Report) → happening.hears_report field c core a h g
      ≡ Happened (happening.came_of field c h.1) (record g { cores = put_core g.cores c h.0; hearings = happening.hearing field c core a h.1 ∷ g.hearings })
  told_is core a (after, report) = refl

-- what comes of a report
abbrev pub reported : ClientId → Option Report → code.Came
reported c None = came.Passed
reported c (Some report) = came.Reported c report

reported_is : {M F : Type 0} (field : Field M F) (c : ClientId) (o : Option Report) → happening.came_of field c o ≡ came_of (reported c o)
reported_is field c None = refl
reported_is field c (Some report) = refl

module _ (w : World) (map : Option Map) (c : ClientId) (k : ℕ) where
  by_found : (m : Meaning) (g : Group (MessageOf m) (StateOf m)) (found : Result (ℕ × Answer) refusals.GroupRefusal) → heard_by k c (numbered w.answers.items k) ≡ found → IsWorld (SaysMessage m) w g
      → HearsBy (model_of m) c k g (numbered g.answers k) found
  by_found m g found is world =
      subst (HearsBy (model_of m) c k g (numbered g.answers k)) is (hears_by (model_of m) c k g (numbered w.answers.items k) (numbered g.answers k) (kept_numbered w.answers.items g.answers world.answers k))

  pub hear_refused : (r : GroupRefusal) → FindsAnswer w.answers.items c k (Err r) → Does (Acts (event.Hear c k)) w w map map [] (Ok (came.Refused r))
  unfolding HearsBy
  hear_refused r finds = λ m later g x sees it named. (g, it ∙ by_found m g (Err (meant r)) finds sees.world, sees)

  module _ (number : ℕ) (answer : Answer) (finds : FindsAnswer w.answers.items c k (Ok (number, answer))) (h : Roster w) (cs : Cores) (report : Option Report) where
    heard_none : core_of w.clients c ≡ None → report ≡ None → cs ≡ w.clients → Does (Acts (event.Hear c k)) w (with_clients w h cs) map map [] (Ok (reported c report))
    unfolding HearsBy
    heard_none none silent same = λ m later g x sees it named.
        let (a, acts_so, is_number, is_answer) = by_found m g (Ok (number, answer)) finds sees.world in (
          g,
          it ∙ acts_so ∙ ap (λ (o : Option Core). happening.hears_with (model_of m) c a o g) (sym (sees.world.cores c) ∙ none) ∙ ap (λ (o : Option Report). Happened (came_of (reported c o)) g) (sym silent),
          record { world = same_cores (SaysMessage m) w h g cs same sees.world; field = sees.field },
        )

    heard_some : (core : Core) → core_of w.clients c ≡ Some core → report ≡ (heard core number answer).1 → PutsCore w.clients c (heard core number answer).0 cs
        → Does (Acts (event.Hear c k)) w (with_clients w h cs) map map [] (Ok (reported c report))
    unfolding HearsBy
    heard_some core some says puts = λ m later g x sees it named.
        let (a, acts_so, is_number, is_answer) = by_found m g (Ok (number, answer)) finds sees.world in
        let next = heard core number answer in
        let hs = happening.hearing (model_of m) c core a next.1 ∷ g.hearings in
        let same : heard core a.number a.answer ≡ next = λ i. heard core (is_number i) (is_answer i) in (
          record g { cores = put_core g.cores c next.0; hearings = hs },
          it ∙ acts_so ∙ ap (λ (o : Option Core). happening.hears_with (model_of m) c a o g) (sym (sees.world.cores c) ∙ some) ∙ ap (λ (x : Core × Option Report). happening.hears_report (model_of m) c core a x g) same ∙ told_is (model_of m) c k g core a next
              ∙ ap (λ (s : Came). Happened s (record g { cores = put_core g.cores c next.0; hearings = hs })) (ap (happening.came_of (model_of m) c) (sym says) ∙ reported_is (model_of m) c report),
          record { world = with_core (SaysMessage m) w h g c next.0 cs sees.world puts hs; field = sees.field },
        )

    pub hears_does : HearsAnswer w.clients c number answer cs report → Does (Acts (event.Hear c k)) w (with_clients w h cs) map map [] (Ok (reported c report))
    hears_does hears = by (core_of w.clients c) refl hears
      where
        by : (o : Option Core) → core_of w.clients c ≡ o
            → MatchOption o ((report ≡ None) × (cs ≡ w.clients)) (λ core. (report ≡ (heard core number answer).1) × PutsCore w.clients c (heard core number answer).0 cs)
            → Does (Acts (event.Hear c k)) w (with_clients w h cs) map map [] (Ok (reported c report))
        by None is (silent, same) = heard_none is silent same
        by (Some core) is (says, puts) = heard_some core is says puts

-- ---- what is said

said_if_any_is : {M F : Type 0} (field : Field M F) (o : Option Core) → happening.said_if_any field o ≡ option_and_then said o
said_if_any_is field None = refl
said_if_any_is field (Some core) = refl

says_some : {M F : Type 0} (field : Field M F) (c : ClientId) (r : ℕ) (request : ℕ × List ℕ) (g : Group M F) → happening.says field c r (Some request) g ≡ happening.tells field r (Client c request.0 request.1) g
says_some field c r (number, bytes) g = refl

module _ (w : World) (map : Option Map) (c : ClientId) (r : ℕ) where
  says_is : (m : Meaning) (g : Group (MessageOf m) (StateOf m)) (o : Option (ℕ × List ℕ)) → IsWorld (SaysMessage m) w g → o ≡ option_and_then said (core_of w.clients c)
      → acts (model_of m) (event.Say c r) g ≡ happening.says (model_of m) c r o g
  says_is m g o world is =
      ap (λ (p : Option (ℕ × List ℕ)). happening.says (model_of m) c r p g) (said_if_any_is (model_of m) (core_of g.cores c) ∙ ap (λ (p : Option Core). option_and_then said p) (sym (world.cores c)) ∙ sym is)

  pub say_refused : None ≡ option_and_then said (core_of w.clients c) → Does (Acts (event.Say c r)) w w map map [] (Ok (came.Refused refusal.NothingInFlight))
  say_refused none = λ m later g x sees it named. (g, it ∙ says_is m g None sees.world none, sees)

  pub say_does : (request : ℕ × List ℕ) → Some request ≡ option_and_then said (core_of w.clients c) → (w' : World) (map' : Option Map) (given : List Given) (result : Result code.Came Unplayed)
      → Does (IsToldBy r (read.Client c request.0 request.1)) w w' map map' given result → Does (Acts (event.Say c r)) w w' map map' given result
  say_does request is w' map' given result h =
      does_as (Acts (event.Say c r)) (IsToldBy r (read.Client c request.0 request.1)) w w' map map' given result (λ m ds g x sees it. it ∙ says_is m g (Some request) sees.world is ∙ says_some (model_of m) c r request g) h
