-- Texts one after another; and what is said of an end is said of what came first.
use Rattle.std.proofs.Common.{refl, sym, ap, ◌≡◌, ℕ, List, [], ◌++◌, append_assoc}
use Rattle.schedule_model.specs.Written.{Written, On, Off, follow, last_of, onto, stop_of, stopped_text, text_with}
use Rattle.written_course.specs.Steps.{OnIs}

module _ {S : Type 0} where
  pub last_onto : (text : List ℕ) (w : Written S) → last_of (onto text w) ≡ last_of w
  last_onto text (On more s) = refl
  last_onto text (Off more stop s) = refl

  pub stop_onto : (text : List ℕ) (w : Written S) → stop_of (onto text w) ≡ stop_of w
  stop_onto text (On more s) = refl
  stop_onto text (Off more stop s) = refl

  pub text_onto : (close : S → List ℕ) (text : List ℕ) (w : Written S) → text_with close (onto text w) ≡ text ++ text_with close w
  text_onto close text (On more s) = append_assoc text more (close s)
  text_onto close text (Off more stop s) = append_assoc text more (stopped_text stop)

  pub onto_onto : (text more : List ℕ) (w : Written S) → onto text (onto more w) ≡ onto (text ++ more) w
  onto_onto text more (On t s) = ap (λ (l : List ℕ). On l s) (sym (append_assoc text more t))
  onto_onto text more (Off t stop s) = ap (λ (l : List ℕ). Off l stop s) (sym (append_assoc text more t))

  pub onto_none : (w : Written S) → onto [] w ≡ w
  onto_none (On text s) = refl
  onto_none (Off text stop s) = refl

  pub follow_onto : (text : List ℕ) (w : Written S) (next : S → Written S) → follow (onto text w) next ≡ onto text (follow w next)
  follow_onto text (On more s) next = sym (onto_onto text more (next s))
  follow_onto text (Off more stop s) next = refl

-- of states that are kept, and of what is said of an end
module _ {S : Type 0} (keeps holds : S → Type 0) where
  -- it is said of the end of what is written
  abbrev pub Till : Written S → Type 0
  Till w = holds (last_of w)

  pub onto_till : (text : List ℕ) (w : Written S) → Till (onto text w) → Till w
  onto_till text (On more s) h = h
  onto_till text (Off more stop s) h = h

  pub onto_is : (text : List ℕ) (w : Written S) → OnIs keeps w → OnIs keeps (onto text w)
  onto_is text (On more s) h = h
  onto_is text (Off more stop s) h = h

  pub follow_is : (w : Written S) (next : S → Written S) → OnIs keeps w → ((t : S) → keeps t → OnIs keeps (next t)) → OnIs keeps (follow w next)
  follow_is (On text t) next on rest = onto_is text (next t) (rest t on)
  follow_is (Off text stop t) next on rest = on

  -- what follows does not undo what came first
  pub follow_till : (w : Written S) (next : S → Written S) → OnIs keeps w → ((t : S) → keeps t → Till (next t) → holds t) → Till (follow w next) → Till w
  follow_till (On text t) next on rest h = rest t on (onto_till text (next t) h)
  follow_till (Off text stop t) next on rest h = h
