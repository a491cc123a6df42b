-- What starts mean, on each understanding of what the field answers.
use Rattle.std.proofs.Common.{arith, refl, sym, ap, subst, ◌∙◌, ◌≡◌, ◌≢◌, ℕ, zero, suc, ◌+◌, ◌<◌, ◌||◌, eqb, get_or, take-append-drop, Bool, true, false, List, [], ◌∷◌, ◌++◌, length, take, drop, Option, Some, None, Ok, Err, IfSome, IsSomeAnd, is_some, inl, inr, append_assoc, append-nil}
use Rattle.std.proofs.lemmas.Bool.{cases_eq, eq-eqb, ne_eqb}
use Rattle.std.proofs.lemmas.List.{take_more}
use Rattle.std.proofs.lemmas.List.Folds.{list_any-append}
use Rattle.values.specs.Rising.{Rising}
use Rattle.std.specs.List.{AllByRecursion}
use Rattle.values.specs.declared.batch.Batch.{Batch}
use Rattle.group_quorum.specs.Conf.{Conf}
use Rattle.group_quorum.specs.Voters.{is_in}
use Rattle.group_model.specs.Enclave.{Begin, Connect, Hello, HostInput, hello_id}
use Rattle.group_model.specs.Field.{Field, Reply, Answers, Unreadable, Nothing}
use Rattle.group_model.specs.Happens.{Happening, Broken, Unanswered, connected, starts_all}
use Rattle.trace_model.specs.Session.{Starts, Hands}
use Rattle.enclave_host.specs.Answers.{StartedBy}
use Rattle.enclave_host.specs.Fields.{Map, Calling, Gains, IsHelloFor, SameBut, WhereTold}
use Rattle.enclave_host.specs.Words.{wording}
use Rattle.group_world.specs.Failing.{one_call, one_taken}
use Rattle.group_world.specs.declared.came.Unplayed.{Unplayed}
use Rattle.group_world.specs.declared.came.Unplayed.TheVariants as unplayed
use Rattle.group_world.specs.Given.{Given, Taken, Content, contents_in}
use Rattle.group_world.specs.Meanings.{Meaning, OfEnclaves, OfContents, Until, MessageOf, StateOf, model_of, batch_of, Fits, SaysInput}
use Rattle.group_world.specs.Standing.{Runs}
use Rattle.group_world.specs.Plays.{Calls, IsBatch}
use Rattle.group_world.specs.Starts as asked
use Rattle.group_world.specs.Starts.{IsStarted, LinksAll, StartsAll}
use Rattle.group_world.proofs.Understood.{call_answers, call_fails, call_refuses, connect_named, start_answers, start_fails}

-- ---- a start that was not answered

-- nothing is answered any more
pub start_leaves : (m : Meaning) (f : StateOf (Until m)) (map : Option Map) (hello : Hello) → Fits (Until m) map [] f → ((model_of (Until m)).start f hello).left ≡ 0
unfolding Fits model_of
start_leaves m f map hello (fits, (left, sound)) =
    ap (λ (n : ℕ). (one_taken (model_of m) n f ((model_of m).start f.inner hello)).left) left ∙ left

pub none_left : (m : Meaning) (f : StateOf (Until m)) (id : ℕ) (input : HostInput (MessageOf (Until m))) → f.left ≡ 0 → (model_of (Until m)).call f id input ≡ Nothing
unfolding model_of
none_left m f id input left = ap (λ (n : ℕ). one_call (model_of m) n f id input) left

-- ---- one start after another

module _ {M F : Type 0} (field : Field M F) (c : Conf) (limit : ℕ) where
  starts_append : (vs ws : List ℕ) (f : F) → starts_all field f c limit (vs ++ ws) ≡ starts_all field (starts_all field f c limit vs) c limit ws
  starts_append [] ws f = refl
  starts_append (v ∷ vs) ws f = starts_append vs ws (field.start f (Begin v c.margin limit c.voters))

pub contents_append : (given more : List Given) → contents_in (given ++ more) ≡ contents_in given ++ contents_in more
contents_append [] more = refl
contents_append (Taken ∷ given) more = contents_append given more
contents_append (Content bytes ∷ given) more = ap (λ cs. bytes ∷ cs) (contents_append given more)

pub gains_more : (a b c : Option (List (List ℕ))) (given more : List Given) → Gains a b (contents_in given) → Gains b c (contents_in more) → Gains a c (contents_in (given ++ more))
gains_more None None None given more first then = tt
gains_more None None (Some c) given more first then = absurd then
gains_more None (Some b) c given more first then = absurd first
gains_more (Some a) None c given more first then = absurd first
gains_more (Some a) (Some b) None given more first then = absurd then
gains_more (Some a) (Some b) (Some c) given more first then =
    then ∙ ap (λ told. told ++ contents_in more) first ∙ append_assoc a (contents_in given) (contents_in more) ∙ ap (λ told. a ++ told) (sym (contents_append given more))

-- an ask that gives no content
pub gains_still : (a b c : Option (List (List ℕ))) (given : List Given) → Gains a b (contents_in given) → Gains b c [] → Gains a c (contents_in given)
gains_still a b c given first then = subst (λ all. Gains a c (contents_in all)) (append-nil given) (gains_more a b c given [] first then)

module _ (map : Option Map) (c : Conf) (limit : ℕ) where
  pub starts_none : StartsAll map map [] c limit [] (Ok tt)
  starts_none = λ m later f fits. fits

  -- one more voter was started
  pub starts_more : (map' map'' : Option Map) (given : List Given) (vs : List ℕ) (v : ℕ) (bytes : List ℕ) → StartsAll map map' given c limit vs (Ok tt) → wording.content_of bytes ≡ Ok (Starts (Begin v c.margin limit c.voters))
      → IsStarted map' map'' v bytes → StartsAll map map'' (given ++ Taken ∷ []) c limit (vs ++ v ∷ []) (Ok tt)
  starts_more map' map'' given vs v bytes so_far says start = λ m later f fits.
      let before = so_far m (Taken ∷ later) f (subst (λ all. Fits m map all f) (append_assoc given (Taken ∷ []) later) fits) in
      subst (Fits m map'' later) (sym (starts_append (model_of m) c limit vs (v ∷ []) f))
      (start_answers m later (starts_all (model_of m) f c limit vs) map' map'' (Begin v c.margin limit c.voters) bytes before says start)

  -- one was not
  pub starts_stopped : (map' map'' : Option Map) (given : List Given) (vs ws ids : List ℕ) (v : ℕ) → ids ≡ vs ++ v ∷ ws → StartsAll map map' given c limit vs (Ok tt) → StartsAll map map'' given c limit ids (Err unplayed.FieldFault)
  starts_stopped map' map'' given vs ws ids v is so_far = λ m f fits.
      let field = model_of (Until m) in
      let g = starts_all field f c limit vs in
      let before = so_far (Until m) [] f (subst (λ all. Fits (Until m) map all f) (sym (append-nil given)) fits) in
      ap (λ all. field.has_failed (starts_all field f c limit all)) is
      ∙ ap field.has_failed (starts_append field c limit vs (v ∷ ws) f)
      ∙ start_fails m c limit v ws g map' before

  -- whatever came of its start
  pub starts_stop : (map' map'' : Option Map) (given : List Given) (vs ws ids : List ℕ) (v : ℕ) (bytes : List ℕ) (e : Unplayed) → ids ≡ vs ++ v ∷ ws → StartsAll map map' given c limit vs (Ok tt)
      → asked.Starts map' map'' v bytes (Err e) → StartsAll map map'' given c limit ids (Err e)
  starts_stop map' map'' given vs ws ids v bytes unplayed.Memory is so_far start = tt
  starts_stop map' map'' given vs ws ids v bytes unplayed.FieldFault is so_far start = starts_stopped map' map'' given vs ws ids v is so_far
  starts_stop map' map'' given vs ws ids v bytes (unplayed.Frame at) is so_far start = absurd start
  starts_stop map' map'' given vs ws ids v bytes (unplayed.Limit which) is so_far start = absurd start

-- ---- one link after another

-- what follows a reply to a call that links
abbrev linked_by : {M F : Type 0} → Field M F → ℕ → List ℕ → (F → Happening M F) → Reply M F → Happening M F
linked_by field x rs next reply = elim reply [ Answers batch sent g ↦ connected field x rs g next | Unreadable at g ↦ Broken at g | Nothing ↦ Unanswered ]

module _ {M F : Type 0} (field : Field M F) (x : ℕ) where
  links_append : (rs ss : List ℕ) (f : F) (next : F → Happening M F) → connected field x (rs ++ ss) f next ≡ connected field x rs f (λ g. connected field x ss g next)
  links_append [] ss f next = refl
  links_append (r ∷ rs) ss f next = by_reply (λ g. links_append rs ss g next) (field.call f r (Connect x))
    where
      by_reply : ((g : F) → connected field x (rs ++ ss) g next ≡ connected field x rs g (λ g. connected field x ss g next)) → (reply : Reply M F)
          → linked_by field x (rs ++ ss) next reply ≡ linked_by field x rs (λ g. connected field x ss g next) reply
      by_reply rest (Answers batch sent g) = rest g
      by_reply rest (Unreadable at g) = refl
      by_reply rest Nothing = refl

  link_answered : (r : ℕ) (rs : List ℕ) (f g : F) (batch : Batch) (sent : List (ℕ × M)) (next : F → Happening M F) → field.call f r (Connect x) ≡ Answers batch sent g → connected field x (r ∷ rs) f next ≡ connected field x rs g next
  link_answered r rs f g batch sent next is = ap (linked_by field x rs next) is

  link_broken : (r : ℕ) (rs : List ℕ) (f g : F) (at : ℕ) (next : F → Happening M F) → field.call f r (Connect x) ≡ Unreadable at g → connected field x (r ∷ rs) f next ≡ Broken at g
  link_broken r rs f g at next is = ap (linked_by field x rs next) is

  pub link_unanswered : (r : ℕ) (rs : List ℕ) (f : F) (next : F → Happening M F) → field.call f r (Connect x) ≡ Nothing → connected field x (r ∷ rs) f next ≡ Unanswered
  link_unanswered r rs f next is = ap (linked_by field x rs next) is

says_link : (m : Meaning) (bytes : List ℕ) (x : ℕ) → wording.content_of bytes ≡ Ok (Hands (Connect x)) → SaysInput m bytes (Connect x)
unfolding SaysInput
says_link OfEnclaves bytes x says = rw says refl
says_link OfContents bytes x says = tt
says_link (Until m) bytes x says = says_link m bytes x says

module _ (map : Option Map) (x : ℕ) where
  pub links_none : LinksAll map map [] x [] (Ok tt)
  links_none = λ m later f fits. record { after = f; links = λ next. refl; fits = fits }

  module _ (map' map'' : Option Map) (given : List Given) (rs : List ℕ) (r : ℕ) (bytes : List ℕ) (so_far : LinksAll map map' given x rs (Ok tt)) (says : wording.content_of bytes ≡ Ok (Hands (Connect x))) where
    -- one more replica was linked
    pub links_more : (content : List ℕ) (batch : Batch) (frames : List (List ℕ)) → WhereTold map' map'' (λ was now. Calling was now r bytes content × SameBut was now r) → IsBatch content batch frames
        → LinksAll map map'' (given ++ Content content ∷ []) x (rs ++ r ∷ []) (Ok tt)
    links_more content batch frames stepped read = λ m later f fits.
        let before = so_far m (Content content ∷ later) f (subst (λ all. Fits m map all f) (append_assoc given (Content content ∷ []) later) fits) in
        let call = call_answers m later before.after map' map'' r bytes content (Connect x) batch frames before.fits (says_link m bytes x says) (connect_named m before.after r x) stepped read in
        record {
          after = call.after;
          links = λ next.
              links_append (model_of m) x rs (r ∷ []) f next ∙ before.links (λ g. connected (model_of m) x (r ∷ []) g next)
              ∙ link_answered (model_of m) x r [] before.after call.after batch call.sent next call.answers;
          fits = call.fits;
        }

    -- one answered what is no batch
    pub links_broken : (ss ids content : List ℕ) (at : ℕ) → ids ≡ rs ++ r ∷ ss → WhereTold map' map'' (λ was now. Calling was now r bytes content × SameBut was now r) → batch_of content ≡ Err at
        → LinksAll map map'' (given ++ Content content ∷ []) x ids (Err (unplayed.Frame at))
    links_broken ss ids content at is stepped read = λ m f fits.
        let before = so_far m (Content content ∷ []) f fits in
        let call = call_refuses m [] before.after map' map'' r bytes content (Connect x) at before.fits (says_link m bytes x says) (connect_named m before.after r x) stepped read in
        record {
          after = call.after;
          links = λ next.
              ap (λ all. connected (model_of m) x all f next) is
              ∙ links_append (model_of m) x rs (r ∷ ss) f next ∙ before.links (λ g. connected (model_of m) x (r ∷ ss) g next)
              ∙ link_broken (model_of m) x r ss before.after call.after at next call.answers;
          fits = call.fits;
        }

    -- one did not answer
    pub links_stopped : (ss ids : List ℕ) → ids ≡ rs ++ r ∷ ss → LinksAll map map'' given x ids (Err unplayed.FieldFault)
    links_stopped ss ids is = λ m f next fits.
        let before = so_far (Until m) [] f (subst (λ all. Fits (Until m) map all f) (sym (append-nil given)) fits) in
        ap (λ all. connected (model_of (Until m)) x all f next) is
        ∙ links_append (model_of (Until m)) x rs (r ∷ ss) f next ∙ before.links (λ g. connected (model_of (Until m)) x (r ∷ ss) g next)
        ∙ link_unanswered (model_of (Until m)) x r ss before.after next (call_fails m before.after map' r (Connect x) before.fits)

    -- whatever came of its call
    pub links_stop : (told told' told'' : Option (List (List ℕ))) (ss ids : List ℕ) (e : Unplayed) → ids ≡ rs ++ r ∷ ss → Gains told told' (contents_in given) → Calls map' map'' told' told'' r bytes (Err e)
        → (all : List Given) × Gains told told'' (contents_in all) × LinksAll map map'' all x ids (Err e)
    links_stop told told' told'' ss ids unplayed.Memory is gained (more, then) = (given ++ more, gains_more told told' told'' given more gained then, tt)
    links_stop told told' told'' ss ids unplayed.FieldFault is gained then = (given, gains_still told told' told'' given gained then, links_stopped ss ids is)
    links_stop told told' told'' ss ids (unplayed.Frame at) is gained (content, called, none) =
        (given ++ Content content ∷ [], gains_more told told' told'' given (Content content ∷ []) gained called.gained, links_broken ss ids content at is called.stepped none)
    links_stop told told' told'' ss ids (unplayed.Limit which) is gained then = absurd then

-- ---- who runs

is_some_and : {A : Type 0} (o : Option A) (P : A → Type 0) → IsSomeAnd o P → is_some o ≡ true
is_some_and None P is = absurd is
is_some_and (Some x) P is = refl

no_some : {A : Type 0} (o : Option A) → is_some o ≡ false → o ≡ None
no_some None is = refl
no_some (Some x) is = cc is

pub runs_as : (map : Option Map) (ids others : List ℕ) → ((v : ℕ) → is_in ids v ≡ is_in others v) → Runs map ids → Runs map others
runs_as None ids others same runs = tt
runs_as (Some was) ids others same runs = λ v. runs v ∙ same v

-- one more runs
pub runs_started : (map map' : Option Map) (ids : List ℕ) (v : ℕ) (bytes : List ℕ) → IsStarted map map' v bytes → Runs map ids → Runs map' (v ∷ ids)
runs_started None None ids v bytes start runs = tt
runs_started None (Some now) ids v bytes start runs = absurd start
runs_started (Some was) None ids v bytes start runs = absurd start
runs_started (Some was) (Some now) ids v bytes start runs = λ other. elim (cases_eq other v) [
  | inl same ↦ rw (same, eq-eqb v v refl) (is_some_and (now v) (λ e. StartedBy e (wording.content_of bytes)) start.0)
  | inr apart ↦ ap is_some (start.1 other apart) ∙ runs other ∙ sym (ap (λ b. b || is_in ids other) (ne_eqb v other (λ same. apart (sym same))))
]

-- this one does not, and may be started so
pub idle_for : (map : Option Map) (ids : List ℕ) (v : ℕ) (bytes : List ℕ) (hello : Hello) → Runs map ids → is_in ids v ≡ false → wording.content_of bytes ≡ Ok (Starts hello) → hello_id hello ≡ v
    → IfSome map (λ was. (was v ≡ None) × IsHelloFor v bytes)
idle_for None ids v bytes hello runs out says of = tt
idle_for (Some was) ids v bytes hello runs out says of = (no_some (was v) (runs v ∙ out), record { hello = hello; said = says; of_id = of })

-- ---- the steps of a loop

-- the ids from this place on
pub rest_at : (ids : List ℕ) (i : ℕ) → i < length ids → ids ≡ take i ids ++ get_or ids i 0 ∷ drop (i + 1) ids
rest_at ids i within =
    sym (take-append-drop (i + 1) ids) ∙ ap (λ front. front ++ drop (i + 1) ids) (take_more ids i 0 within) ∙ append_assoc (take i ids) (get_or ids i 0 ∷ []) (drop (i + 1) ids)

before_all : (x : ℕ) (ids : List ℕ) (i : ℕ) → AllByRecursion (λ y. x < y) ids → i < length ids → x < get_or ids i 0
before_all x [] i all within = absurd (omega (arith, within))
before_all x (y ∷ ids) zero (here, all) within = here
before_all x (y ∷ ids) (suc i) (here, all) within = before_all x ids i all (omega (arith, within))

-- an id of rising ones stands at one place alone
pub not_before : (ids : List ℕ) (i : ℕ) → i < length ids → Rising ids → is_in (take i ids) (get_or ids i 0) ≡ false
not_before [] i within up = absurd (omega (arith, within))
not_before (x ∷ ids) zero within up = refl
not_before (x ∷ ids) (suc i) within (first, up) =
    let in_rest : i < length ids = omega (arith, within) in
    let low = before_all x ids i first in_rest in
    let apart : x ≢ get_or ids i 0 = omega (arith, low) in
    ap (λ b. b || is_in (take i ids) (get_or ids i 0)) (ne_eqb x (get_or ids i 0) apart) ∙ not_before ids i in_rest up

is_in-push : (ids : List ℕ) (v w : ℕ) → is_in (v ∷ ids) w ≡ is_in (ids ++ v ∷ []) w
is_in-push ids v w = sym (or_turn (is_in ids w) (eqb v w)) ∙ sym (list_any-append (λ x. eqb x w) ids (v ∷ []))
  where
    or_turn : (a b : Bool) → (a || (b || false)) ≡ (b || a)
    or_turn true true = refl
    or_turn true false = refl
    or_turn false true = refl
    or_turn false false = refl

-- one more of the ids runs
pub runs_more : (map map' : Option Map) (ids : List ℕ) (i : ℕ) (bytes : List ℕ) → i < length ids → IsStarted map map' (get_or ids i 0) bytes → Runs map (take i ids) → Runs map' (take (i + 1) ids)
runs_more map map' ids i bytes within start runs =
    subst (Runs map') (sym (take_more ids i 0 within)) (runs_as map' (get_or ids i 0 ∷ take i ids) (take i ids ++ get_or ids i 0 ∷ []) (is_in-push (take i ids) (get_or ids i 0)) (runs_started map map' (take i ids) (get_or ids i 0) bytes start runs))
