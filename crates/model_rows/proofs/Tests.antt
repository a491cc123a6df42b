-- What a law that holds would make of tests that compute.
use Rattle.std.proofs.Common.{◌≡◌, ℕ, ◌==◌, ◌&&◌, Bool, true, false, List, [], ◌∷◌, ◌++◌, map, refl, subst, ap, Option, Some, None}
use Rattle.std.specs.Prelude.{IfSome, is_none}
use Rattle.std.specs.List.{AllByRecursion, list_all}
use Rattle.std.proofs.lemmas.Bool.{eq-eqb, le-leb}
use Rattle.replica_model.specs.Path.{Path}
use Rattle.group_model.specs.Group.{Setup, bears}
use Rattle.group_model.specs.Log.{IsFrontOf, Bears}
use Rattle.group_model.specs.Run.{World}

-- a test that passes and one that does not are not the same
pub clash : (b : Bool) → b ≡ true → b ≡ false → ⊥
clash true e f = Prim.cc
clash false e f = Prim.cc

-- whether numbers begin with others
abbrev pub is_front : List ℕ → List ℕ → Bool
is_front [] ws = true
is_front (x ∷ xs) [] = false
is_front (x ∷ xs) (w ∷ ws) = (x == w) && is_front xs ws

abbrev pub terms : Path → List ℕ
terms p = map (λ e. e.term) p

both : (a b : Bool) → a ≡ true → b ≡ true → (a && b) ≡ true
both true true e f = refl
both true false e f = f
both false b e f = e

front_of_terms : (p rest : Path) → is_front (terms p) (terms (p ++ rest)) ≡ true
front_of_terms [] rest = refl
front_of_terms (e ∷ p) rest = both (e.term == e.term) (is_front (terms p) (terms (p ++ rest))) (eq-eqb e.term e.term refl) (front_of_terms p rest)

pub is_front_of : (p w : Path) → IsFrontOf p w → is_front (terms p) (terms w) ≡ true
is_front_of p w f = subst (λ x. is_front (terms p) (terms x) ≡ true) f.1 (front_of_terms p f.0)

-- the terms of each path are a front of the log's
abbrev pub are_fronts : Path → List Path → Bool
are_fronts w ps = list_all (λ p. is_front (terms p) (terms w)) ps

pub all_fronts : (w : Path) (ps : List Path) → AllByRecursion (λ p. IsFrontOf p w) ps → are_fronts w ps ≡ true
all_fronts w [] h = refl
all_fronts w (p ∷ ps) h = both (is_front (terms p) (terms w)) (are_fronts w ps) (is_front_of p w h.0) (all_fronts w ps h.1)

-- each value passes a test which says that it is nothing
pub all_none : {A B : Type 0} (f : A → Option B) (xs : List A) → AllByRecursion (λ x. f x ≡ None) xs → list_all (λ x. is_none (f x)) xs ≡ true
all_none f [] h = refl
all_none f (x ∷ xs) h = both (is_none (f x)) (list_all (λ x. is_none (f x)) xs) (ap is_none h.0) (all_none f xs h.1)

-- the first configuration bears what was rolled back
abbrev pub bears_first : List ℕ → Option Setup → Bool
bears_first rolled None = true
bears_first rolled (Some setup) = bears rolled setup.first

pub first_bears : (w : World) (setup : Option Setup) → IfSome setup (λ setup. Bears w setup.first) → bears_first w.rolled setup ≡ true
first_bears w None h = refl
first_bears w (Some setup) h = le-leb _ _ h

abbrev pub is_empty : List ℕ → Bool
is_empty [] = true
is_empty (x ∷ xs) = false
