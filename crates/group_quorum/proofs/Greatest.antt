-- The greatest mark that a quorum has reached, among marks in order.
use Rattle.std.proofs.Common.{◌≡◌, ℕ, zero, suc, ◌+◌, ◌-◌, ◌<◌, ◌≤◌, Bool, true, false, max, List, [], ◌∷◌, length, get_or, take, take_all, map, leb, count_by, inl, inr, refl, sym, ap, ◌∙◌, subst, arith}
use Rattle.std.specs.Prelude.{filter, fold}
use Rattle.std.specs.List.Sorted.{IsNonDecreasing, IsPermutation, IsSorted}
use Rattle.std.specs.Ordering.{nat_cmp}
use Rattle.std.proofs.lemmas.Bool.{cond_both, cases_lt, cases_Bool, leb-true, leb-false, le-leb, lt-leb}
use Rattle.std.proofs.lemmas.List.{length-map}
use Rattle.std.proofs.lemmas.List.Sums.{count_by-le-length}
use Rattle.std.proofs.lemmas.List.Sorted.{sum_by-IsPermutation, length_permutation, Contains-permutation, IsPermutation-sym, IsNonDecreasingBy-from_sort}
use Rattle.std.proofs.lemmas.List.Elements.{Contains-get_or}
use Rattle.group_quorum.specs.Conf.{Conf, quorum_of, Met, met}
use Rattle.group_quorum.specs.Marks.{mark_of, reaches, greatest_met, IsGreatestMet}
use Rattle.group_quorum.proofs.Counting.{bit, count-cons, count_more}

-- how many of the numbers are at least n
abbrev pub at_least : ℕ → List ℕ → ℕ
at_least n xs = count_by (λ x. leb n x) xs

count-map : {X : Type 0} (f : X → ℕ) (p : ℕ → Bool) (xs : List X) → count_by (λ x. p (f x)) xs ≡ count_by p (map f xs)
count-map f p [] = refl
count-map f p (x ∷ xs) = omega (arith, count-cons (λ y. p (f y)) x xs, count-cons p (f x) (map f xs), count-map f p xs)

-- from place i on each is at least n
many : (n : ℕ) (xs : List ℕ) (i : ℕ) → ((k : ℕ) → i ≤ k → k < length xs → n ≤ get_or xs k 0) → length xs - i ≤ at_least n xs
many n [] i h = omega arith
many n (x ∷ xs) zero h =
    omega (arith, count-cons (λ y. leb n y) x xs, ap bit (le-leb n x (h 0 (omega arith) (omega arith))), many n xs zero (λ k le lt. h (suc k) (omega arith) (omega arith)))
many n (x ∷ xs) (suc i) h =
    omega (arith, count-cons (λ y. leb n y) x xs, many n xs i (λ k le lt. h (suc k) (omega arith) (omega arith)))

-- up to place i each is less than n
few : (n : ℕ) (xs : List ℕ) (i : ℕ) → i ≤ length xs → ((k : ℕ) → k < i → get_or xs k 0 < n) → at_least n xs + i ≤ length xs
few n xs zero le h = omega (arith, count_by-le-length (λ y. leb n y) xs)
few n [] (suc i) le h = absurd (omega arith)
few n (x ∷ xs) (suc i) le h =
    omega (arith, count-cons (λ y. leb n y) x xs, ap bit (lt-leb n x (h 0 (omega arith))), few n xs i (omega arith) (λ k lt. h (suc k) (omega arith)))

module _ (xs : List ℕ) (m : ℕ) (long : length xs ≡ m) (up : IsNonDecreasing xs) (q : ℕ) (some : 0 < q) (within : q ≤ m) where
  -- in rising order the q-th from the end is the greatest that q of them reach
  nth_reached : q ≤ at_least (get_or xs (m - q) 0) xs
  nth_reached = omega (arith, many (get_or xs (m - q) 0) xs (m - q) (λ k le lt. up (m - q) k 0 le lt))

  nth_greatest : (n : ℕ) → q ≤ at_least n xs → n ≤ get_or xs (m - q) 0
  nth_greatest n enough = by_cases (leb n (get_or xs (m - q) 0)) refl
    where
      by_cases : (b : Bool) → leb n (get_or xs (m - q) 0) ≡ b → n ≤ get_or xs (m - q) 0
      by_cases true e = leb-true n (get_or xs (m - q) 0) e
      by_cases false e =
          let less = leb-false n (get_or xs (m - q) 0) e in
          absurd (omega (arith, few n xs (m - q + 1) (omega arith) (λ k lt. omega (arith, up k (m - q) 0 (omega arith) (omega arith)))))

-- the greatest of a list that passes a test
le_fold : (a : ℕ) (xs : List ℕ) → a ≤ fold max a xs
le_fold a [] = omega arith
le_fold a (x ∷ xs) = omega (arith, le_fold (max a x) xs)

filtered : (p : ℕ → Bool) (x : ℕ) (xs : List ℕ) (P : List ℕ → Type 0) → (p x ≡ true → P (x ∷ filter p xs)) → (p x ≡ false → P (filter p xs)) → P (filter p (x ∷ xs))
filtered p x xs P passes fails = cond_both (p x) (x ∷ filter p xs) (filter p xs) P passes fails

fold_at_most : (n a : ℕ) (p : ℕ → Bool) (xs : List ℕ) → a ≤ n → ((k : ℕ) → p k ≡ true → k ≤ n) → fold max a (filter p xs) ≤ n
fold_at_most n a p [] le h = le
fold_at_most n a p (x ∷ xs) le h =
    filtered p x xs (λ ys. fold max a ys ≤ n) (λ e. fold_at_most n (max a x) p xs (omega (arith, h x e)) h) (λ e. fold_at_most n a p xs le h)

in_fold : (n a : ℕ) (p : ℕ → Bool) (xs : List ℕ) (k : ℕ) → k < length xs → get_or xs k n ≡ n → p n ≡ true → n ≤ fold max a (filter p xs)
in_fold n a p [] k lt is e = absurd (omega arith)
in_fold n a p (x ∷ xs) zero lt is e =
    filtered p x xs (λ ys. n ≤ fold max a ys) (λ is_in. omega (arith, le_fold (max a x) (filter p xs))) (λ is_out. absurd (let t : true ≡ false = sym e ∙ ap p (sym is) ∙ is_out in cc))
in_fold n a p (x ∷ xs) (suc k) lt is e =
    filtered p x xs (λ ys. n ≤ fold max a ys) (λ is_in. in_fold n (max a x) p xs k (omega arith) is e) (λ is_out. in_fold n a p xs k (omega arith) is e)

module _ (c : Conf) (marks : List (ℕ × ℕ)) (sorted : List ℕ) (moved : IsPermutation (map (mark_of marks) c.voters) sorted) (up : IsNonDecreasing sorted) (within : quorum_of c ≤ length c.voters) where
  long : length sorted ≡ length c.voters
  long = length_permutation (map (mark_of marks) c.voters) sorted moved ∙ length-map c.voters (mark_of marks)

  counted : (n : ℕ) → count_by (reaches marks n) c.voters ≡ at_least n sorted
  counted n = count-map (mark_of marks) (leb n) c.voters ∙ sym (sum_by-IsPermutation (λ x. bit (leb n x)) (map (mark_of marks) c.voters) sorted moved)

  found_reached : Met c (reaches marks (get_or sorted (length c.voters - quorum_of c) 0))
  found_reached =
      omega (arith, counted (get_or sorted (length c.voters - quorum_of c) 0), nth_reached sorted (length c.voters) long up (quorum_of c) (omega arith) within)

  found_greatest : (n : ℕ) → Met c (reaches marks n) → n ≤ get_or sorted (length c.voters - quorum_of c) 0
  found_greatest n enough =
      nth_greatest sorted (length c.voters) long up (quorum_of c) (omega arith) within n (omega (arith, counted n))

  found_is : get_or sorted (length c.voters - quorum_of c) 0 ≡ greatest_met c marks
  found_is =
      let at = length c.voters - quorum_of c in
      let n = get_or sorted at 0 in
      let listed = Contains-permutation sorted (map (mark_of marks) c.voters) n (IsPermutation-sym (map (mark_of marks) c.voters) sorted moved) (Contains-get_or sorted at 0 (omega (arith, long))) in
      let test : ℕ → Bool = λ k. met c (reaches marks k) in
      let low : n ≤ greatest_met c marks = in_fold n 0 test (map (mark_of marks) c.voters) listed.0 listed.1 listed.2 (le-leb (quorum_of c) (count_by (reaches marks n) c.voters) found_reached) in
      let high : greatest_met c marks ≤ n = fold_at_most n 0 test (map (mark_of marks) c.voters) (omega arith) (λ k e. found_greatest k (leb-true (quorum_of c) (count_by (reaches marks k) c.voters) e)) in
      omega arith

-- the marks of the voters, looked up one after another and sorted
module _ (c : Conf) (marks : List (ℕ × ℕ)) (vs : List ℕ) (is : vs ≡ c.voters) (q : ℕ) (q_is : q ≡ quorum_of c) (within : q ≤ length c.voters) (place : ℕ) (below : place ≤ length vs) (above : length vs ≤ place) (looked sorted : List ℕ) (each : take place looked ≡ map (mark_of marks) (take place vs)) (moved : IsPermutation (take (length vs) looked) sorted) (up : IsSorted nat_cmp sorted) where
  moved_marks : IsPermutation (map (mark_of marks) c.voters) sorted
  moved_marks =
      let whole : length vs ≡ place = omega arith in
      let all : take place vs ≡ vs = take_all place vs above in
      subst (λ xs. IsPermutation xs sorted) (ap (λ n. take n looked) whole ∙ each ∙ ap (map (mark_of marks)) (all ∙ is)) moved

  rising_marks : IsNonDecreasing sorted
  rising_marks = IsNonDecreasingBy-from_sort (λ x. x) sorted up

  enough : quorum_of c ≤ length c.voters
  enough = omega arith

  same_place : length c.voters - quorum_of c ≡ length vs - q
  same_place = omega (arith, ap length is)

  pub greatest_found : IsGreatestMet c marks (get_or sorted (length vs - q) 0)
  greatest_found =
      subst (λ i. IsGreatestMet c marks (get_or sorted i 0)) same_place
      (record { reached = found_reached c marks sorted moved_marks rising_marks enough; greatest = found_greatest c marks sorted moved_marks rising_marks enough })

  pub value_found : get_or sorted (length vs - q) 0 ≡ greatest_met c marks
  value_found = ap (λ i. get_or sorted i 0) (sym same_place) ∙ found_is c marks sorted moved_marks rising_marks enough

-- a quorum has reached the numbers up to the greatest one, and no others
pub reached_upto : (c : Conf) (marks : List (ℕ × ℕ)) (n : ℕ) → IsGreatestMet c marks n → (i : ℕ) → met c (reaches marks i) ≡ leb i n
reached_upto c marks n is i = elim (cases_lt n i) [
  | inl past ↦
      (elim (cases_Bool (met c (reaches marks i))) [
        | inl pass ↦ absurd (let at_most : i ≤ n = is.greatest i (leb-true (quorum_of c) (count_by (reaches marks i) c.voters) pass) in omega (arith, at_most, past))
        | inr fail ↦ fail ∙ sym (lt-leb i n past)
      ])
  | inr within ↦
      let weaker : count_by (reaches marks n) c.voters ≤ count_by (reaches marks i) c.voters =
      count_more (reaches marks n) (reaches marks i) c.voters (λ v e. le-leb i (mark_of marks v) (let r : n ≤ mark_of marks v = leb-true n (mark_of marks v) e in omega (arith, r, within))) in
      let reached = is.reached in
      le-leb (quorum_of c) (count_by (reaches marks i) c.voters) (omega (arith, weaker, reached)) ∙ sym (le-leb i n within)
]
