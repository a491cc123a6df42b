-- Steps that go on with what was found, and tables of words.
use Rattle.std.proofs.Common.{◌≡◌, ℕ, Bool, true, false, ◌||◌, Option, Some, None, Result, Ok, Err, List, [], ◌∷◌, refl, sym, subst, ap}
use Rattle.std.specs.Prelude.{IsTrue, if◌then◌else◌, bytes_eq, is_some}
use Rattle.std.specs.List.{AllByRecursion}
use Rattle.std.specs.Result.{result_ok}
use Rattle.std.proofs.lemmas.Option.{none-some, same_Some}
use Rattle.std.proofs.lemmas.Slice.Eq.{bytes_eq-Decides}
use Rattle.schedule_model.specs.Records.{meaning}
use Rattle.trace_lines.specs.Fields.{◌>>=◌, if_holds, is_among}

-- what a step that gave something began with
pub record Bound {A B : Type 0} (o : Option A) (f : A → Option B) (b : B) : Type 0 where
  pub value : A
  pub first : o ≡ Some value
  pub rest : f value ≡ Some b

pub bound : {A B : Type 0} (o : Option A) (f : A → Option B) (b : B) → (o >>= f) ≡ Some b → Bound o f b
bound (Some a) f b is = record { value = a; first = refl; rest = is }
bound None f b is = absurd (none-some b is)

pub held : {A : Type 0} (b : Bool) (x y : A) → if_holds b x ≡ Some y → IsTrue b × (x ≡ y)
held true x y is = (refl, same_Some x y is)
held false x y is = absurd (none-some y is)

pub chosen : {A : Type 0} (b : Bool) (o : Option A) (y : A) → (if b then o else None) ≡ Some y → IsTrue b × (o ≡ Some y)
chosen true o y is = (refl, is)
chosen false o y is = absurd (none-some y is)

pub is_some_of : {A : Type 0} (o : Option A) → IsTrue (is_some o) → (a : A) × (o ≡ Some a)
is_some_of (Some a) h = (a, refl)
is_some_of None h = cc h

pub ok_of : {A E : Type 0} (r : Result A E) (a : A) → result_ok r ≡ Some a → r ≡ Ok a
ok_of (Ok x) a is = ap Ok (same_Some x a is)
ok_of (Err e) a is = absurd (none-some a is)

pub same_bytes : (xs ys : List ℕ) → bytes_eq xs ys ≡ true → xs ≡ ys
same_bytes xs ys is = (bytes_eq-Decides xs ys).0 is

pub bytes_same : (xs : List ℕ) → bytes_eq xs xs ≡ true
bytes_same xs = (bytes_eq-Decides xs xs).1 refl

-- what holds of each word with its meaning holds of a text with the one that it has
module _ {A : Type 0} (R : List ℕ → A → Type 0) where
  abbrev pub Each : List (List ℕ × A) → Type 0
  Each [] = Unit {0}
  Each (w ∷ ws) = R w.0 w.1 × Each ws

  meant_by : (b : Bool) (w : List ℕ × A) (o : Option A) (t : List ℕ) (a : A) → bytes_eq t w.0 ≡ b → R w.0 w.1 → (o ≡ Some a → R t a) → (if b then Some w.1 else o) ≡ Some a → R t a
  meant_by true w o t a same this rest is = subst (λ x. R x a) (sym (same_bytes t w.0 same)) (subst (R w.0) (same_Some w.1 a is) this)
  meant_by false w o t a same this rest is = rest is

  pub meant_of : (ws : List (List ℕ × A)) → Each ws → (t : List ℕ) (a : A) → meaning t ws ≡ Some a → R t a
  meant_of [] each t a is = absurd (none-some a is)
  meant_of (w ∷ ws) each t a is = meant_by (bytes_eq t w.0) w (meaning t ws) t a refl each.0 (meant_of ws each.1 t a) is

-- and what holds of each word holds of a text that is one of them
module _ (R : List ℕ → Type 0) where
  among_by : (b c : Bool) (t w : List ℕ) → bytes_eq t w ≡ b → R w → (IsTrue c → R t) → IsTrue (b || c) → R t
  among_by true c t w same this rest is = subst R (sym (same_bytes t w same)) this
  among_by false c t w same this rest is = rest is

  pub among_of : (ws : List (List ℕ)) → AllByRecursion R ws → (t : List ℕ) → IsTrue (is_among t ws) → R t
  among_of [] each t is = cc is
  among_of (w ∷ ws) each t is = among_by (bytes_eq t w) (is_among t ws) t w refl each.0 (among_of ws each.1 t) is
