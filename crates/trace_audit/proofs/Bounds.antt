-- How what is kept goes on standing for the configurations and the rolls.
use Rattle.std.proofs.Common.{◌≡◌, ℕ, zero, suc, ◌+◌, ◌*◌, Bool, true, false, cond, List, [], ◌∷◌, ◌++◌, map, Some, refl, sym, ap, ◌∙◌, arith}
use Rattle.std.specs.Prelude.{◌==◌, ◌&&◌, ◌||◌, nat_lt, nat_le, count_by, slice_get, option_map}
use Rattle.std.specs.List.{list_all}
use Rattle.std.specs.Ordering.{nat_cmp}
use Rattle.std.specs.BTreeSet.{contains}
use Rattle.std.proofs.lemmas.Option.{slice_get-map}
use Rattle.std.proofs.lemmas.List.Folds.{list_any-append}
use Rattle.std.proofs.lemmas.List.Sums.{sum_by-cons}
use Rattle.group_quorum.specs.Conf.{Conf}
use Rattle.group_quorum.specs.Voters.{is_in, rising, insert_rising}
use Rattle.group_model.specs.Group.{bears}
use Rattle.trace_audit.specs.declared.bound.Members.{Members}
use Rattle.trace_audit.specs.Bounds.{KeptBound, conf_told, confs_told, StandsBound, bears_set}

-- ---- counts
count-cons : (f : ℕ → Bool) (x : ℕ) (xs : List ℕ) → count_by f (x ∷ xs) ≡ cond (f x) 1 0 + count_by f xs
count-cons f x xs = sum_by-cons (λ (y : ℕ). cond (f y) 1 0) x xs

count_same : (f g : ℕ → Bool) → ((v : ℕ) → f v ≡ g v) → (xs : List ℕ) → count_by f xs ≡ count_by g xs
count_same f g same [] = refl
count_same f g same (x ∷ xs) =
    count-cons f x xs ∙ ap (λ (b : Bool). cond b 1 0 + count_by f xs) (same x) ∙ ap (λ (n : ℕ). cond (g x) 1 0 + n) (count_same f g same xs) ∙ sym (count-cons g x xs)

all_same : (f g : Conf → Bool) → ((c : Conf) → f c ≡ g c) → (cs : List Conf) → list_all f cs ≡ list_all g cs
all_same f g same [] = refl
all_same f g same (c ∷ cs) = ap (λ (b : Bool). b && list_all f cs) (same c) ∙ ap (λ (b : Bool). g c && b) (all_same f g same cs)

-- an id counts the same wherever it stands
insert_step : (f : ℕ → Bool) (v w : ℕ) (ids more : List ℕ) (b : Bool) → count_by f more ≡ count_by f (v ∷ ids)
    → count_by f (cond b (v ∷ w ∷ ids) (w ∷ more)) ≡ count_by f (v ∷ w ∷ ids)
insert_step f v w ids more true e = refl
insert_step f v w ids more false e =
    omega (arith, count-cons f w more, count-cons f v ids, count-cons f v (w ∷ ids), count-cons f w ids, e)

count_insert : (f : ℕ → Bool) (v : ℕ) (ids : List ℕ) → count_by f (insert_rising v ids) ≡ count_by f (v ∷ ids)
count_insert f v [] = refl
count_insert f v (w ∷ ids) = insert_step f v w ids (insert_rising v ids) (nat_lt v w) (count_insert f v ids)

count_rising : (f : ℕ → Bool) (ids : List ℕ) → count_by f (rising ids) ≡ count_by f ids
count_rising f [] = refl
count_rising f (v ∷ ids) =
    count_insert f v (rising ids) ∙ count-cons f v (rising ids) ∙ ap (λ (n : ℕ). cond (f v) 1 0 + n) (count_rising f ids) ∙ sym (count-cons f v ids)

-- a begin's voters may stand in any order
pub in_any_order : (b : KeptBound) (margin : ℕ) (voters : List ℕ) (confs : List Conf) (rolled rolling : List ℕ)
    → StandsBound b (record { margin = margin; voters = voters } ∷ confs) rolled rolling → StandsBound b (record { margin = margin; voters = rising voters } ∷ confs) rolled rolling
in_any_order b margin voters confs rolled rolling s = record {
  borne = λ ids. s.borne ids ∙ sym (ap (λ (n : ℕ). nat_le n (2 * margin) && list_all (bears ids) confs) (count_rising (is_in ids) voters));
  named = s.named;
  last = s.last;
}

-- ---- configurations
and_again : (p q : Bool) → (p && q) ≡ (p && (p && q))
and_again true q = refl
and_again false q = refl

and_shift : (p q r : Bool) → (p && (q && r)) ≡ (q && (p && r))
and_shift true q r = refl
and_shift false true r = refl
and_shift false false r = refl

-- one that stands among others already adds nothing
passes_there : {A : Type 0} → (f : A → Bool) (xs : List A) (k : ℕ) (x : A) → slice_get xs k ≡ Some x → list_all f xs ≡ (f x && list_all f xs)
passes_there f [] k x at = absurd cc
passes_there f (y ∷ xs) zero x at =
    let e : y ≡ x = cc in
    and_again (f y) (list_all f xs) ∙ ap (λ z. f z && (f y && list_all f xs)) e
passes_there f (y ∷ xs) (suc k) x at =
    ap (λ (h : Bool). f y && h) (passes_there f xs k x at) ∙ and_shift (f y) (f x) (list_all f xs)

pub conf_again : (b : KeptBound) (told : List Members) (k : ℕ) (m : Members) (confs : List Conf) (rolled rolling : List ℕ) → b.confs ≡ confs_told told
    → slice_get told k ≡ Some m → StandsBound b confs rolled rolling → StandsBound b (conf_told m ∷ confs) rolled rolling
conf_again b told k m confs rolled rolling is at s = record { borne = borne; named = s.named; last = s.last }
  where
    there : slice_get b.confs k ≡ Some (conf_told m)
    there = ap (λ (cs : List Conf). slice_get cs k) is ∙ slice_get-map conf_told told k ∙ ap (option_map conf_told) at

    borne : (ids : List ℕ) → list_all (bears ids) b.confs ≡ list_all (bears ids) (conf_told m ∷ confs)
    borne ids = passes_there (bears ids) b.confs k (conf_told m) there ∙ ap (λ (h : Bool). bears ids (conf_told m) && h) (s.borne ids)

-- ---- rolls
in_append : (xs ys : List ℕ) (v : ℕ) → is_in (xs ++ ys) v ≡ (is_in xs v || is_in ys v)
in_append xs ys v = list_any-append (λ (x : ℕ). x == v) xs ys

-- ---- the bound
within : (b : KeptBound) (confs : List Conf) (rolled rolling : List ℕ) → StandsBound b confs rolled rolling
    → list_all (bears_set b.rolled) b.confs ≡ list_all (bears (rolling ++ rolled)) confs
within b confs rolled rolling s = all_same (bears_set b.rolled) (bears ids) borne_by b.confs ∙ s.borne ids
  where
    ids : List ℕ
    ids = rolling ++ rolled

    borne_by : (c : Conf) → bears_set b.rolled c ≡ bears ids c
    borne_by c = ap (λ (n : ℕ). nat_le n (2 * c.margin)) (count_same (contains nat_cmp b.rolled) (is_in ids) (λ v. s.named v ∙ sym (in_append rolling rolled v)) c.voters)

all_map : {A B : Type 0} → (f : A → B) (p : B → Bool) (xs : List A) → list_all (λ (x : A). p (f x)) xs ≡ list_all p (map f xs)
all_map f p [] = refl
all_map f p (x ∷ xs) = ap (λ (h : Bool). p (f x) && h) (all_map f p xs)

pub all_within : (b : KeptBound) (told : List Members) (confs : List Conf) (rolled rolling : List ℕ) → b.confs ≡ confs_told told → StandsBound b confs rolled rolling
    → list_all (λ (m : Members). bears_set b.rolled (conf_told m)) told ≡ list_all (bears (rolling ++ rolled)) confs
all_within b told confs rolled rolling is s =
    all_map conf_told (bears_set b.rolled) told ∙ ap (list_all (bears_set b.rolled)) (sym is) ∙ within b confs rolled rolling s
