-- Lists in rising order, and how often an id stands in a list.
use Rattle.std.proofs.Common.{◌≡◌, ℕ, zero, suc, ◌+◌, ◌<◌, ◌≤◌, false, List, [], ◌∷◌, get_or, eqb, ltb, count_by, refl, sym, inl, inr, ap, ◌∙◌, subst, arith}
use Rattle.std.specs.Prelude.{AllPairs}
use Rattle.std.specs.List.{AllByRecursion}
use Rattle.std.specs.List.Sorted.{IsNonDecreasing, IsStrictlyIncreasing}
use Rattle.std.proofs.lemmas.Bool.{cases_eq, eq-eqb, ne_eqb, cond_both, ltb-true, ltb-false}
use Rattle.std.proofs.lemmas.List.Elements.{recursion_from_All}
use Rattle.std.proofs.lemmas.List.Kept.{AllPairs-from_increasing}
use Rattle.group_quorum.specs.Voters.{insert_rising, rising}
use Rattle.group_quorum.proofs.Counting.{bit, count-cons}

-- how often v stands in the list
abbrev pub copies : ℕ → List ℕ → ℕ
copies v xs = count_by (λ x. eqb x v) xs

pub copies-cons : (v x : ℕ) (xs : List ℕ) → copies v (x ∷ xs) ≡ bit (eqb x v) + copies v xs
copies-cons v x xs = count-cons (λ y. eqb y v) x xs

pub copies_same : (x : ℕ) (xs : List ℕ) → copies x (x ∷ xs) ≡ 1 + copies x xs
copies_same x xs = copies-cons x x xs ∙ ap (λ b. bit b + copies x xs) (eq-eqb x x refl)

-- each element is at most, or less than, each later one
abbrev pub Climbs : List ℕ → Type 0
Climbs [] = Unit {0}
Climbs (x ∷ xs) = AllByRecursion (λ y. x ≤ y) xs × Climbs xs

abbrev pub Rises : List ℕ → Type 0
Rises [] = Unit {0}
Rises (x ∷ xs) = AllByRecursion (λ y. x < y) xs × Rises xs

pub climbs : (xs : List ℕ) → IsNonDecreasing xs → Climbs xs
climbs [] h = tt
climbs (x ∷ xs) h =
    (recursion_from_All (λ y. x ≤ y) xs (λ k d l. h 0 (suc k) d (omega arith) (omega arith)), climbs xs (λ i j d le l. h (suc i) (suc j) d (omega arith) (omega arith)))

rises_pairs : (xs : List ℕ) → AllPairs (λ x y. x < y) xs → Rises xs
rises_pairs [] h = tt
rises_pairs (x ∷ xs) h =
    (recursion_from_All (λ y. x < y) xs (λ k d l. h 0 (suc k) d (omega arith) (omega arith)), rises_pairs xs (λ i j d lt l. h (suc i) (suc j) d (omega arith) (omega arith)))

pub rises : (xs : List ℕ) → IsStrictlyIncreasing xs → Rises xs
rises xs h = rises_pairs xs (AllPairs-from_increasing xs h)

weaker : (x : ℕ) (xs : List ℕ) → AllByRecursion (λ y. x < y) xs → AllByRecursion (λ y. x ≤ y) xs
weaker x [] h = h
weaker x (y ∷ xs) h = (omega (arith, h.0), weaker x xs h.1)

pub climbs_rising : (xs : List ℕ) → Rises xs → Climbs xs
climbs_rising [] h = tt
climbs_rising (x ∷ xs) h = (weaker x xs h.0, climbs_rising xs h.1)

-- what is less than each element is not among them
none_of : (v : ℕ) (xs : List ℕ) → AllByRecursion (λ y. v < y) xs → copies v xs ≡ 0
none_of v [] h = refl
none_of v (x ∷ xs) h =
    let other : eqb x v ≡ false = ne_eqb x v (λ e. omega (arith, h.0)) in
    omega (arith, copies-cons v x xs, ap bit other, none_of v xs h.1)

-- in strictly rising order no id stands twice
pub once : (xs : List ℕ) → Rises xs → (v : ℕ) → copies v xs ≤ 1
once [] h v = omega arith
once (x ∷ xs) h v = elim (cases_eq x v) [
  | inl e ↦ subst (λ w. copies w (x ∷ xs) ≤ 1) e (omega (arith, copies_same x xs, none_of x xs h.0))
  | inr ne ↦ omega (arith, copies-cons v x xs, ap bit (ne_eqb x v ne), once xs h.1 v)
]

-- an id that stands there is at least the least
stands : (v x : ℕ) (xs : List ℕ) → AllByRecursion (λ y. x ≤ y) xs → 0 < copies v xs → x ≤ v
stands v x [] h some = absurd (omega arith)
stands v x (y ∷ xs) h some = elim (cases_eq y v) [
  | inl e ↦ omega (arith, h.0)
  | inr ne ↦ stands v x xs h.1 (omega (arith, copies-cons v y xs, ap bit (ne_eqb y v ne)))
]

least : (v x : ℕ) (xs : List ℕ) → Climbs (x ∷ xs) → 0 < copies v (x ∷ xs) → x ≤ v
least v x xs h some = elim (cases_eq x v) [
  | inl e ↦ omega arith
  | inr ne ↦ stands v x xs h.0 (omega (arith, copies-cons v x xs, ap bit (ne_eqb x v ne)))
]

-- two lists in order with the same elements are the same
pub same_in_order : (xs ys : List ℕ) → Climbs xs → Climbs ys → ((v : ℕ) → copies v xs ≡ copies v ys) → xs ≡ ys
same_in_order [] [] a b h = refl
same_in_order [] (y ∷ ys) a b h = absurd (omega (arith, h y, copies_same y ys))
same_in_order (x ∷ xs) [] a b h = absurd (omega (arith, h x, copies_same x xs))
same_in_order (x ∷ xs) (y ∷ ys) a b h =
    let up : y ≤ x = least x y ys b (omega (arith, h x, copies_same x xs)) in
    let down : x ≤ y = least y x xs a (omega (arith, h y, copies_same y ys)) in
    let head : x ≡ y = omega arith in
    let rest : (v : ℕ) → copies v xs ≡ copies v ys = λ v. omega (arith, h v, copies-cons v x xs, copies-cons v y ys, ap (λ w. bit (eqb w v)) head) in
    ap (λ w. w ∷ xs) head ∙ ap (λ zs. y ∷ zs) (same_in_order xs ys a.1 b.1 rest)

-- in order, and no id twice: strictly rising
pub strictly : (xs : List ℕ) → Climbs xs → ((v : ℕ) → copies v xs ≤ 1) → IsStrictlyIncreasing xs
strictly [] h one k l = absurd (omega arith)
strictly (x ∷ []) h one k l = absurd (omega arith)
strictly (x ∷ y ∷ xs) h one zero l = elim (cases_eq x y) [
  | inl e ↦ absurd (omega (arith, one x, copies_same x (y ∷ xs), copies-cons x y xs, ap bit (eq-eqb y x (sym e))))
  | inr ne ↦ omega (arith, h.0.0)
]
strictly (x ∷ y ∷ xs) h one (suc k) l =
    let next : suc k + 1 ≡ suc (k + 1) = omega arith in
    subst (λ j. get_or (y ∷ xs) k 0 < get_or (x ∷ y ∷ xs) j 0) (sym next)
    (strictly (y ∷ xs) h.1 (λ v. omega (arith, one v, copies-cons v x (y ∷ xs))) k (omega arith))

-- an id at its place among rising ones, and the ids in rising order
insert_copies : (v w : ℕ) (xs : List ℕ) → copies v (insert_rising w xs) ≡ bit (eqb w v) + copies v xs
insert_copies v w [] = copies-cons v w []
insert_copies v w (x ∷ xs) = cond_both (ltb w x) (w ∷ x ∷ xs) (x ∷ insert_rising w xs) (λ ys. copies v ys ≡ bit (eqb w v) + copies v (x ∷ xs))
    (λ e. copies-cons v w (x ∷ xs))
    (λ e. omega (arith, copies-cons v x (insert_rising w xs), copies-cons v x xs, insert_copies v w xs))

pub rising_copies : (v : ℕ) (xs : List ℕ) → copies v (rising xs) ≡ copies v xs
rising_copies v [] = refl
rising_copies v (x ∷ xs) = omega (arith, insert_copies v x (rising xs), copies-cons v x xs, rising_copies v xs)

above : (x w : ℕ) (xs : List ℕ) → x ≤ w → AllByRecursion (λ y. x ≤ y) xs → AllByRecursion (λ y. x ≤ y) (insert_rising w xs)
above x w [] le h = (le, tt)
above x w (y ∷ ys) le h = cond_both (ltb w y) (w ∷ y ∷ ys) (y ∷ insert_rising w ys) (λ zs. AllByRecursion (λ z. x ≤ z) zs)
    (λ e. (le, h))
    (λ e. (h.0, above x w ys le h.1))

below : (w x : ℕ) (xs : List ℕ) → w ≤ x → AllByRecursion (λ y. x ≤ y) xs → AllByRecursion (λ y. w ≤ y) xs
below w x [] le h = h
below w x (y ∷ ys) le h = (omega (arith, h.0), below w x ys le h.1)

insert_climbs : (w : ℕ) (xs : List ℕ) → Climbs xs → Climbs (insert_rising w xs)
insert_climbs w [] h = (tt, tt)
insert_climbs w (x ∷ xs) h = cond_both (ltb w x) (w ∷ x ∷ xs) (x ∷ insert_rising w xs) Climbs
    (λ e. let lt : w < x = ltb-true w x e in ((omega arith, below w x xs (omega arith) h.0), h))
    (λ e. (above x w xs (ltb-false w x e) h.0, insert_climbs w xs h.1))

pub rising_climbs : (xs : List ℕ) → Climbs (rising xs)
rising_climbs [] = tt
rising_climbs (x ∷ xs) = insert_climbs x (rising xs) (rising_climbs xs)
