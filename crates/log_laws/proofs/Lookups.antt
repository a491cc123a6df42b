-- What stands under an id after a list under ids was changed.
use Rattle.std.proofs.Common.{◌≡◌, ℕ, cond, not, ◌==◌, nat_lt, ◌⊎◌, inl, inr, Some, None, List, [], ◌∷◌, map, refl, sym, ap, ◌∙◌, subst}
use Rattle.std.proofs.lemmas.Bool.{cases_eq, cond_both, cond-true, cond-false, eqb-true, eqb-false, eq-eqb, ne_eqb, not_from_true, not_from_false}
use Rattle.std.specs.Prelude.{find, option_map}
use Rattle.replica_model.specs.Keyed.{value_at, put, without}

module _ {A : Type 0} where
  at_head : (x : ℕ × A) (xs : List (ℕ × A)) (k : ℕ) → x.0 ≡ k → value_at (x ∷ xs) k ≡ Some x.1
  at_head x xs k is = ap (option_map (λ (y : ℕ × A). y.1)) (cond-true (x.0 == k) (Some x) (find (λ y. y.0 == k) xs) (eq-eqb x.0 k is))

  pub past_head : (x : ℕ × A) (xs : List (ℕ × A)) (k : ℕ) → (x.0 ≡ k → ⊥) → value_at (x ∷ xs) k ≡ value_at xs k
  past_head x xs k other = ap (option_map (λ (y : ℕ × A). y.1)) (cond-false (x.0 == k) (Some x) (find (λ y. y.0 == k) xs) (ne_eqb x.0 k other))

  -- the value that was put
  pub put_same : (xs : List (ℕ × A)) (k : ℕ) (a : A) → value_at (put xs k a) k ≡ Some a
  put_same [] k a = at_head (k, a) [] k refl
  put_same (x ∷ xs) k a = cond_both (x.0 == k) ((k, a) ∷ xs) (cond (nat_lt k x.0) ((k, a) ∷ x ∷ xs) (x ∷ put xs k a)) (λ ys. value_at ys k ≡ Some a)
      (λ here. at_head (k, a) xs k refl)
      (λ other. cond_both (nat_lt k x.0) ((k, a) ∷ x ∷ xs) (x ∷ put xs k a) (λ ys. value_at ys k ≡ Some a)
      (λ below. at_head (k, a) (x ∷ xs) k refl)
      (λ above. past_head x (put xs k a) k (eqb-false x.0 k other) ∙ put_same xs k a))

  -- each other stays
  pub put_other : (xs : List (ℕ × A)) (k : ℕ) (a : A) (u : ℕ) → (k ≡ u → ⊥) → value_at (put xs k a) u ≡ value_at xs u
  put_other [] k a u apart = past_head (k, a) [] u apart
  put_other (x ∷ xs) k a u apart = cond_both (x.0 == k) ((k, a) ∷ xs) (cond (nat_lt k x.0) ((k, a) ∷ x ∷ xs) (x ∷ put xs k a)) (λ ys. value_at ys u ≡ value_at (x ∷ xs) u)
      (λ here. past_head (k, a) xs u apart ∙ sym (past_head x xs u (λ is. apart (sym (eqb-true x.0 k here) ∙ is))))
      (λ other. cond_both (nat_lt k x.0) ((k, a) ∷ x ∷ xs) (x ∷ put xs k a) (λ ys. value_at ys u ≡ value_at (x ∷ xs) u)
      (λ below. past_head (k, a) (x ∷ xs) u apart)
      (λ above. elim (cases_eq x.0 u) [
        | inl is ↦ at_head x (put xs k a) u is ∙ sym (at_head x xs u is)
        | inr ne ↦ past_head x (put xs k a) u ne ∙ (put_other xs k a u apart ∙ sym (past_head x xs u ne))
      ]))

  -- what stands after a put: the new value, or what stood
  pub put_cases : (xs : List (ℕ × A)) (k : ℕ) (a : A) (u : ℕ) → ((k ≡ u) × (value_at (put xs k a) u ≡ Some a)) ⊎ ((k ≡ u → ⊥) × (value_at (put xs k a) u ≡ value_at xs u))
  put_cases xs k a u = elim (cases_eq k u) [
    | inl is ↦ inl (is, subst (λ v. value_at (put xs k a) v ≡ Some a) is (put_same xs k a))
    | inr ne ↦ inr (ne, put_other xs k a u ne)
  ]

  -- what stands without an id stood before
  pub without_stood : (xs : List (ℕ × A)) (k u : ℕ) (a : A) → value_at (without xs k) u ≡ Some a → value_at xs u ≡ Some a
  without_stood [] k u a is = is
  without_stood (x ∷ xs) k u a is = elim (cases_eq x.0 k) [
    | inl gone ↦
        let rest : without (x ∷ xs) k ≡ without xs k = cond-false (not (x.0 == k)) (x ∷ without xs k) (without xs k) (not_from_true (x.0 == k) (eq-eqb x.0 k gone)) in
        let stood = without_stood xs k u a (ap (λ ys. value_at ys u) (sym rest) ∙ is) in
        elim (cases_eq x.0 u) [
          | inl here ↦ absurd (none_left xs k u a (sym gone ∙ here) (ap (λ ys. value_at ys u) (sym rest) ∙ is))
          | inr ne ↦ past_head x xs u ne ∙ stood
        ]
    | inr stays ↦
        let rest : without (x ∷ xs) k ≡ x ∷ without xs k = cond-true (not (x.0 == k)) (x ∷ without xs k) (without xs k) (not_from_false (x.0 == k) (ne_eqb x.0 k stays)) in
        let now : value_at (x ∷ without xs k) u ≡ Some a = ap (λ ys. value_at ys u) (sym rest) ∙ is in
        elim (cases_eq x.0 u) [
          | inl here ↦ at_head x xs u here ∙ (sym (at_head x (without xs k) u here) ∙ now)
          | inr ne ↦ past_head x xs u ne ∙ without_stood xs k u a (sym (past_head x (without xs k) u ne) ∙ now)
        ]
  ]
    where
      none_left : (xs : List (ℕ × A)) (k u : ℕ) (a : A) → k ≡ u → value_at (without xs k) u ≡ Some a → ⊥
      none_left [] k u a same is = let apart : None ≡ Some a = is in cc
      none_left (x ∷ xs) k u a same is = elim (cases_eq x.0 k) [
        | inl gone ↦
            let rest : without (x ∷ xs) k ≡ without xs k = cond-false (not (x.0 == k)) (x ∷ without xs k) (without xs k) (not_from_true (x.0 == k) (eq-eqb x.0 k gone)) in
            none_left xs k u a same (ap (λ ys. value_at ys u) (sym rest) ∙ is)
        | inr stays ↦
            let rest : without (x ∷ xs) k ≡ x ∷ without xs k = cond-true (not (x.0 == k)) (x ∷ without xs k) (without xs k) (not_from_false (x.0 == k) (ne_eqb x.0 k stays)) in
            none_left xs k u a same (sym (past_head x (without xs k) u (λ here. stays (here ∙ sym same))) ∙ (ap (λ ys. value_at ys u) (sym rest) ∙ is))
      ]

  -- under each id of a list the same value
  pub map_stands : (ids : List ℕ) (a : A) (u : ℕ) → (value_at (map (λ v. (v, a)) ids) u ≡ Some a) ⊎ (value_at (map (λ v. (v, a)) ids) u ≡ None)
  map_stands [] a u = inr refl
  map_stands (v ∷ ids) a u = elim (cases_eq v u) [
    | inl here ↦ inl (at_head (v, a) (map (λ w. (w, a)) ids) u here)
    | inr ne ↦ elim (map_stands ids a u) [
      | inl stands ↦ inl (past_head (v, a) (map (λ w. (w, a)) ids) u ne ∙ stands)
      | inr none ↦ inr (past_head (v, a) (map (λ w. (w, a)) ids) u ne ∙ none)
    ]
  ]
