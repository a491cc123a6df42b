-- An id put at its place among rising ones, and ids put in rising order.
use Rattle.std.proofs.Common.{◌≡◌, ℕ, suc, ◌+◌, Bool, true, false, not, ◌||◌, nat_lt, ltb, eqb, ◌⊎◌, inl, inr, List, [], ◌∷◌, ◌++◌, length, refl, sym, ap, ◌∙◌, arith}
use Rattle.std.specs.Prelude.{All}
use Rattle.std.specs.List.{position_or_len, insert}
use Rattle.std.proofs.lemmas.Bool.{cases_Bool, cond_both, cond-true, cond-false, not_from_true, not_from_false, or_cases, eqb-true}
use Rattle.std.proofs.lemmas.List.Elements.{All-cons, All-head, All-tail}
use Rattle.std.proofs.lemmas.List.Folds.{list_any-append}
use Rattle.group_quorum.specs.Voters.{is_in, insert_rising, rising}

-- the first place of an id above k
abbrev pub above : List ℕ → ℕ → ℕ
above ids k = position_or_len (λ v. nat_lt k v) ids

one_more : (n : ℕ) → 1 + n ≡ suc n
one_more n = omega arith

pub insert-rising : (ids : List ℕ) (k : ℕ) → insert_rising k ids ≡ insert ids (above ids k) k
insert-rising [] k = refl
insert-rising (v ∷ ids) k = elim (cases_Bool (nat_lt k v)) [
  | inl lower ↦
      let at : above (v ∷ ids) k ≡ 0 = cond-false (not (nat_lt k v)) (1 + above ids k) 0 (not_from_true (nat_lt k v) lower) in
      cond-true (nat_lt k v) (k ∷ v ∷ ids) (v ∷ insert_rising k ids) lower ∙ ap (λ n. insert (v ∷ ids) n k) (sym at)
  | inr higher ↦
      let at : above (v ∷ ids) k ≡ suc (above ids k) = cond-true (not (nat_lt k v)) (1 + above ids k) 0 (not_from_false (nat_lt k v) higher) ∙ one_more (above ids k) in
      cond-false (nat_lt k v) (k ∷ v ∷ ids) (v ∷ insert_rising k ids) higher
      ∙ (ap (λ vs. v ∷ vs) (insert-rising ids k) ∙ ap (λ n. insert (v ∷ ids) n k) (sym at))
]

-- there is one more
pub insert_length : (w : ℕ) (xs : List ℕ) → length (insert_rising w xs) ≡ 1 + length xs
insert_length w [] = refl
insert_length w (x ∷ xs) = cond_both (ltb w x) (w ∷ x ∷ xs) (x ∷ insert_rising w xs) (λ ys. length ys ≡ 1 + length (x ∷ xs)) (λ e. omega arith) (λ e. omega (arith, insert_length w xs))

pub rising_length : (xs : List ℕ) → length (rising xs) ≡ length xs
rising_length [] = refl
rising_length (x ∷ xs) = omega (arith, insert_length x (rising xs), rising_length xs)

-- what holds of it, and of each, holds of all
pub insert_all : (P : ℕ → Type 0) (w : ℕ) (xs : List ℕ) → P w → All P xs → All P (insert_rising w xs)
insert_all P w [] h all = All-cons P w [] h all
insert_all P w (x ∷ xs) h all = cond_both (ltb w x) (w ∷ x ∷ xs) (x ∷ insert_rising w xs) (All P)
    (λ e. All-cons P w (x ∷ xs) h all)
    (λ e. All-cons P x (insert_rising w xs) (All-head P x xs all) (insert_all P w xs h (All-tail P x xs all)))

-- it is among them, and so is who was
or_swap : (a b c : Bool) → (a || (b || c)) ≡ (b || (a || c))
or_swap true true c = refl
or_swap true false c = refl
or_swap false b c = refl

pub is_in-insert : (w : ℕ) (xs : List ℕ) (v : ℕ) → is_in (insert_rising w xs) v ≡ (eqb w v || is_in xs v)
is_in-insert w [] v = refl
is_in-insert w (x ∷ xs) v = cond_both (ltb w x) (w ∷ x ∷ xs) (x ∷ insert_rising w xs) (λ ys. is_in ys v ≡ (eqb w v || is_in (x ∷ xs) v))
    (λ e. refl)
    (λ e. ap (λ b. eqb x v || b) (is_in-insert w xs v) ∙ or_swap (eqb x v) (eqb w v) (is_in xs v))

pub in_inserted : (w : ℕ) (xs : List ℕ) (v : ℕ) → is_in (insert_rising w xs) v ≡ true → (w ≡ v) ⊎ (is_in xs v ≡ true)
in_inserted w xs v h = elim (or_cases (eqb w v) (is_in xs v) (sym (is_in-insert w xs v) ∙ h)) [ inl same ↦ inl (eqb-true w v same) | inr old ↦ inr old ]

pub is_in-rising : (xs : List ℕ) (v : ℕ) → is_in (rising xs) v ≡ is_in xs v
is_in-rising [] v = refl
is_in-rising (x ∷ xs) v = is_in-insert x (rising xs) v ∙ ap (λ b. eqb x v || b) (is_in-rising xs v)

-- an id behind others
pub is_in-push : (xs : List ℕ) (w v : ℕ) → is_in (xs ++ w ∷ []) v ≡ (is_in xs v || (eqb w v || false))
is_in-push xs w v = list_any-append (λ x. eqb x v) xs (w ∷ [])
