-- The laws of a group that plays records: where it stands before any of them.
use Rattle.std.proofs.Common.{refl, sym, ap, ◌∙◌, ◌≡◌, ◌==◌, ℕ, true, false, List, [], ◌∷◌, ◌++◌, length, Option, Some, None, append-nil, append_assoc}
use Rattle.schedule_model.specs.Written.{all_written}
use Rattle.record_stream.specs.Course.{IsHistory}
use Rattle.trace_model.specs.Trace.{Playing}
use Rattle.enclave_host.specs.Fields.{Gains, Map}
use Rattle.group_world.specs.declared.world.World.{World}
use Rattle.group_world.specs.Given.{Given, Taken, Content, contents_in}
use Rattle.group_world.specs.Meanings.{Meaning, OfEnclaves, OfContents, Until, MessageOf, StateOf, AreNamed, Fits}
use Rattle.group_world.specs.Playing.{Takes, Way, course, course_of, is_spent}

pub nothing_from : (way : Way) → (course way).text false [] ≡ []
unfolding all_written
nothing_from way = refl

pub unstopped_from : (way : Way) → (course way).reason [] ≡ None
unfolding all_written
unstopped_from way = refl

pub fits_spent : (m : Meaning) (map : Option Map) (f : StateOf m) → Fits m map [] f → is_spent m f ≡ true
unfolding Fits is_spent
fits_spent OfEnclaves map f fits = refl
fits_spent OfContents map f fits = ap (λ (contents : List (List ℕ)). length contents == 0) fits
fits_spent (Until m) map f (fits, rest) = fits_spent m map f.inner fits

all_taken : (m : Meaning) (q : Playing (MessageOf m) (StateOf m)) → (course_of m q).takes_all [] ≡ is_spent m q.stands
unfolding all_written
all_taken m q = refl

named_here : (m : Meaning) (q : Playing (MessageOf m) (StateOf m)) → (course_of m q).holds [] → AreNamed m q.stands
unfolding all_written
named_here m q here = here

pub spent_from : (w : World) (records : ℕ) (map : Option Map) (way : Way) → Takes w records map false [] way → (course way).holds [] → (course way).takes_all [] ≡ true
spent_from w records map way t here =
    let ((sees, same), counted) = t.sees (named_here way.meaning way.playing here) in
    all_taken way.meaning way.playing ∙ ap (is_spent way.meaning) same ∙ fits_spent way.meaning map way.playing.group.field sees.field

contents_then : (gs hs : List Given) → contents_in (gs ++ hs) ≡ contents_in gs ++ contents_in hs
contents_then [] hs = refl
contents_then (Taken ∷ gs) hs = contents_then gs hs
contents_then (Content c ∷ gs) hs = ap (λ (cs : List (List ℕ)). c ∷ cs) (contents_then gs hs)

pub gains_none : (told : Option (List (List ℕ))) → Gains told told []
gains_none None = tt
gains_none (Some told) = sym (append-nil told)

pub gains_then : (x y z : Option (List (List ℕ))) (gs hs : List Given) → Gains x y (contents_in gs) → Gains y z (contents_in hs) → Gains x z (contents_in (gs ++ hs))
gains_then None None None gs hs g h = tt
gains_then None None (Some z) gs hs g h = absurd h
gains_then None (Some y) z gs hs g h = absurd g
gains_then (Some x) None z gs hs g h = absurd g
gains_then (Some x) (Some y) None gs hs g h = absurd h
gains_then (Some x) (Some y) (Some z) gs hs g h =
    h ∙ ap (λ (cs : List (List ℕ)). cs ++ contents_in hs) g ∙ append_assoc x (contents_in gs) (contents_in hs) ∙ ap (λ (cs : List (List ℕ)). x ++ cs) (sym (contents_then gs hs))

-- what a player got, by the answers that its field tells
abbrev pub answers_gained : {S : Type 0} → (S → Option (List (List ℕ))) → S → S → List Given → Type 0
answers_gained told p q given = Gains (told p) (told q) (contents_in given)

pub answers_history : {S : Type 0} (told : S → Option (List (List ℕ))) → IsHistory (answers_gained told)
answers_history told = record {
  none = λ p. gains_none (told p);
  then = λ p q r gs hs. gains_then (told p) (told q) (told r) gs hs;
}
