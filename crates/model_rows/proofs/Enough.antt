-- What had enough marks in a world whose history computes, and who leads later without it.
use Rattle.std.proofs.Common.{◌≡◌, ℕ, ◌==◌, ◌&&◌, not, Bool, true, false, List, [], ◌∷◌, ◌++◌, length, take, drop, refl, subst, inl, inr, take-append-drop}
use Rattle.std.specs.Prelude.{nat_lt, ◌||◌}
use Rattle.std.specs.List.{list_any, AllByRecursion}
use Rattle.std.proofs.lemmas.Bool.{and_parts, eqb-true, leb-true}
use Rattle.replica_model.specs.Path.{Path}
use Rattle.replica_model.specs.Raise.{may_promise}
use Rattle.replica_model.specs.Replica.{Replica, Role, Learner, Follower, Candidate, Leader}
use Rattle.trace_model.specs.Audit.{same_entry}
use Rattle.group_model.specs.Halts.{Leads, HasEnough, EnoughAt, WasEnough, HoldsEnough}
use Rattle.group_model.specs.Log.{AnyByRecursion, IsFrontOf, state_of}
use Rattle.group_model.specs.Run.{Recorded, World}
use Rattle.model_rows.proofs.Premises.{entries_same}
use Rattle.model_rows.proofs.Tests.{clash, is_front, terms, is_front_of}

-- some element passes a test that tells P
some_by : {A : Type 0} (P : A → Type 0) (test : A → Bool) → ((x : A) → test x ≡ true → P x) → (xs : List A) → list_any test xs ≡ true → AnyByRecursion P xs
some_by P test tells [] e = Prim.cc
some_by P test tells (x ∷ xs) e = by (test x) refl (some_by P test tells xs) e
  where
    by : (b : Bool) → test x ≡ b → (list_any test xs ≡ true → AnyByRecursion P xs) → (b || list_any test xs) ≡ true → AnyByRecursion P (x ∷ xs)
    by true f later g = inl (tells x f)
    by false f later g = inr (later g)

abbrev same_path : Path → Path → Bool
same_path [] [] = true
same_path (a ∷ p) (b ∷ q) = same_entry a b && same_path p q
same_path p q = false

paths_same : (p q : Path) → same_path p q ≡ true → p ≡ q
paths_same [] [] e = refl
paths_same [] (b ∷ q) e = Prim.cc
paths_same (a ∷ p) [] e = Prim.cc
paths_same (a ∷ p) (b ∷ q) e =
    let parts = and_parts (same_entry a b) (same_path p q) e in
    let heads = entries_same a b parts.0 in
    let tails = paths_same p q parts.1 in
    λ i. heads i ∷ tails i

front_by : (p w : Path) → same_path (take (length p) w) p ≡ true → IsFrontOf p w
front_by p w e = (drop (length p) w, subst (λ x. x ++ drop (length p) w ≡ w) (paths_same (take (length p) w) p e) (take-append-drop (length p) w))

abbrev has_enough : Replica → Role → Path → Bool
has_enough s (Leader l) p = may_promise s l (length p)
has_enough s role p = false

enough_by : (s : Replica) (role : Role) (p : Path) → has_enough s role p ≡ true → HasEnough s role p
enough_by s (Leader l) p e = e
enough_by s (Learner taking) p e = Prim.cc
enough_by s Follower p e = Prim.cc
enough_by s (Candidate votes) p e = Prim.cc

abbrev is_enough_at : ℕ → Path → Replica → Bool
is_enough_at t p s = (s.term == t) && (nat_lt 0 (length p) && (same_path (take (length p) s.path) p && has_enough s s.role p))

enough_at : (t : ℕ) (p : Path) (s : Replica) → is_enough_at t p s ≡ true → EnoughAt t p s
enough_at t p s e =
    let a = and_parts (s.term == t) (nat_lt 0 (length p) && (same_path (take (length p) s.path) p && has_enough s s.role p)) e in
    let b = and_parts (nat_lt 0 (length p)) (same_path (take (length p) s.path) p && has_enough s s.role p) a.1 in
    let c = and_parts (same_path (take (length p) s.path) p) (has_enough s s.role p) b.1 in
    record { term = eqb-true s.term t a.0; some = leb-true _ _ b.0; front = front_by p s.path c.0; enough = enough_by s s.role p c.1 }

-- this was enough at some moment of some call
abbrev pub was_enough : ℕ → Path → List Recorded → Bool
was_enough t p history = list_any (λ (r : Recorded). list_any (is_enough_at t p) r.call.moments) history

pub enough_was : (w : World) (t : ℕ) (p : Path) → was_enough t p w.field.history ≡ true → WasEnough w t p
enough_was w t p e =
    some_by (λ (r : Recorded). AnyByRecursion (EnoughAt t p) r.call.moments) (λ (r : Recorded). list_any (is_enough_at t p) r.call.moments)
    (λ r f. some_by (EnoughAt t p) (is_enough_at t p) (enough_at t p) r.call.moments f) w.field.history e

abbrev leads : Role → Bool
leads (Leader l) = true
leads role = false

leads_by : (role : Role) → leads role ≡ true → Leads role
leads_by (Leader l) e = tt
leads_by (Learner taking) e = Prim.cc
leads_by Follower e = Prim.cc
leads_by (Candidate votes) e = Prim.cc

-- a replica leads in a later term, and its path does not begin with p
abbrev pub leads_without : ℕ → Path → Recorded → Bool
leads_without t p r = leads (state_of r).role && (nat_lt t (state_of r).term && not (is_front (terms p) (terms (state_of r).path)))

not_so : (b : Bool) → not b ≡ true → b ≡ false
not_so true e = Prim.cc
not_so false e = refl

-- then leader completeness fails
pub incomplete : (w : World) (t : ℕ) (p : Path) → WasEnough w t p → (history : List Recorded) → list_any (leads_without t p) history ≡ true → AllByRecursion (HoldsEnough w) history → ⊥
incomplete w t p enough [] e all = Prim.cc
incomplete w t p enough (r ∷ rs) e all = by (leads_without t p r) refl (λ f. incomplete w t p enough rs f all.1) e
  where
    by : (b : Bool) → leads_without t p r ≡ b → (list_any (leads_without t p) rs ≡ true → ⊥) → (b || list_any (leads_without t p) rs) ≡ true → ⊥
    by false f later g = later g
    by true f later g =
        let a = and_parts (leads (state_of r).role) (nat_lt t (state_of r).term && not (is_front (terms p) (terms (state_of r).path))) f in
        let b = and_parts (nat_lt t (state_of r).term) (not (is_front (terms p) (terms (state_of r).path))) a.1 in
        clash (is_front (terms p) (terms (state_of r).path))
        (is_front_of p (state_of r).path (all.0 t p enough (leads_by (state_of r).role a.0) (leb-true _ _ b.0)))
        (not_so (is_front (terms p) (terms (state_of r).path)) b.1)
