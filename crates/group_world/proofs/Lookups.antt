-- What stands under an id after something was put there, or taken away.
use Rattle.std.proofs.Common.{refl, sym, ap, ◌∙◌, ◌≡◌, ◌≢◌, ℕ, ◌==◌, not, cond, Bool, true, false, List, [], ◌∷◌, Option, Some, None}
use Rattle.std.specs.Prelude.{find, nat_lt, option_map}
use Rattle.std.proofs.lemmas.Bool.{eq-eqb, eqb-true, ne_eqb}
use Rattle.replica_model.specs.Keyed.{value_at, put, without}

module _ {A : Type 0} where
  at_cons : (x : ℕ × A) (xs : List (ℕ × A)) (k : ℕ) (b : Bool) → (x.0 == k) ≡ b → value_at (x ∷ xs) k ≡ cond b (Some x.1) (value_at xs k)
  at_cons x xs k true is = ap (λ (b : Bool). option_map (λ (x : ℕ × A). x.1) (cond b (Some x) (find (λ (x : ℕ × A). x.0 == k) xs))) is
  at_cons x xs k false is = ap (λ (b : Bool). option_map (λ (x : ℕ × A). x.1) (cond b (Some x) (find (λ (x : ℕ × A). x.0 == k) xs))) is

  put_by : (x : ℕ × A) (xs : List (ℕ × A)) (k : ℕ) (e : A) → value_at (put xs k e) k ≡ Some e → (b c : Bool) → (x.0 == k) ≡ b → nat_lt k x.0 ≡ c
      → value_at (put (x ∷ xs) k e) k ≡ Some e
  put_by x xs k e later true c is at = ap (λ (b : Bool). value_at (cond b ((k, e) ∷ xs) (cond (nat_lt k x.0) ((k, e) ∷ x ∷ xs) (x ∷ put xs k e))) k) is ∙ at_cons (k, e) xs k true (eq-eqb k k refl)
  put_by x xs k e later false true is at =
      (λ i. value_at (cond (is i) ((k, e) ∷ xs) (cond (at i) ((k, e) ∷ x ∷ xs) (x ∷ put xs k e))) k) ∙ at_cons (k, e) (x ∷ xs) k true (eq-eqb k k refl)
  put_by x xs k e later false false is at =
      (λ i. value_at (cond (is i) ((k, e) ∷ xs) (cond (at i) ((k, e) ∷ x ∷ xs) (x ∷ put xs k e))) k) ∙ at_cons x (put xs k e) k false is ∙ later

  pub value_at-put : (xs : List (ℕ × A)) (k : ℕ) (e : A) → value_at (put xs k e) k ≡ Some e
  value_at-put [] k e = at_cons (k, e) [] k true (eq-eqb k k refl)
  value_at-put (x ∷ xs) k e = put_by x xs k e (value_at-put xs k e) (x.0 == k) (nat_lt k x.0) refl refl

  find_by : (x : ℕ × A) (xs : List (ℕ × A)) (k : ℕ) → Bool → Option A
  find_by x xs k b = cond b (Some x.1) (value_at xs k)

  at_any : (x : ℕ × A) (xs : List (ℕ × A)) (k : ℕ) → value_at (x ∷ xs) k ≡ find_by x xs k (x.0 == k)
  unfolding find_by
  at_any x xs k = at_cons x xs k (x.0 == k) refl

  same_after : (x : ℕ × A) (xs ys : List (ℕ × A)) (k : ℕ) → value_at xs k ≡ value_at ys k → (b : Bool) → find_by x xs k b ≡ find_by x ys k b
  unfolding find_by
  same_after x xs ys k same true = refl
  same_after x xs ys k same false = same

  passed_over : (k other : ℕ) (e : A) (xs : List (ℕ × A)) → other ≢ k → value_at ((k, e) ∷ xs) other ≡ value_at xs other
  passed_over k other e xs apart = at_cons (k, e) xs other false (ne_eqb k other (λ same. apart (sym same)))

  other_by : (x : ℕ × A) (xs : List (ℕ × A)) (k other : ℕ) (e : A) → other ≢ k → value_at (put xs k e) other ≡ value_at xs other → (b c : Bool) → (x.0 == k) ≡ b → nat_lt k x.0 ≡ c
      → value_at (put (x ∷ xs) k e) other ≡ value_at (x ∷ xs) other
  other_by x xs k other e apart later true c is at =
      ap (λ (b : Bool). value_at (cond b ((k, e) ∷ xs) (cond (nat_lt k x.0) ((k, e) ∷ x ∷ xs) (x ∷ put xs k e))) other) is ∙ passed_over k other e xs apart
      ∙ sym (at_cons x xs other false (ne_eqb x.0 other (λ same. apart (sym same ∙ eqb-true x.0 k is))))
  other_by x xs k other e apart later false true is at =
      (λ i. value_at (cond (is i) ((k, e) ∷ xs) (cond (at i) ((k, e) ∷ x ∷ xs) (x ∷ put xs k e))) other) ∙ passed_over k other e (x ∷ xs) apart
  other_by x xs k other e apart later false false is at =
      (λ i. value_at (cond (is i) ((k, e) ∷ xs) (cond (at i) ((k, e) ∷ x ∷ xs) (x ∷ put xs k e))) other)
      ∙ at_any x (put xs k e) other ∙ same_after x (put xs k e) xs other later (x.0 == other) ∙ sym (at_any x xs other)

  pub value_at-other : (xs : List (ℕ × A)) (k other : ℕ) (e : A) → other ≢ k → value_at (put xs k e) other ≡ value_at xs other
  value_at-other [] k other e apart = passed_over k other e [] apart
  value_at-other (x ∷ xs) k other e apart = other_by x xs k other e apart (value_at-other xs k other e apart) (x.0 == k) (nat_lt k x.0) refl refl

  same_by : (x : ℕ × A) (xs : List (ℕ × A)) (k other : ℕ) → other ≢ k → value_at (without xs k) other ≡ value_at xs other → (b : Bool) → (x.0 == k) ≡ b → value_at (without (x ∷ xs) k) other ≡ value_at (x ∷ xs) other
  same_by x xs k other apart later true is =
      ap (λ (b : Bool). value_at (cond (not b) (x ∷ without xs k) (without xs k)) other) is ∙ later ∙ sym (at_cons x xs other false (ne_eqb x.0 other (λ same. apart (sym same ∙ eqb-true x.0 k is))))
  same_by x xs k other apart later false is =
      ap (λ (b : Bool). value_at (cond (not b) (x ∷ without xs k) (without xs k)) other) is ∙ at_any x (without xs k) other ∙ same_after x (without xs k) xs other later (x.0 == other) ∙ sym (at_any x xs other)

  pub same_without : (xs : List (ℕ × A)) (k other : ℕ) → other ≢ k → value_at (without xs k) other ≡ value_at xs other
  same_without [] k other apart = refl
  same_without (x ∷ xs) k other apart = same_by x xs k other apart (same_without xs k other apart) (x.0 == k) refl

  none_by : (x : ℕ × A) (xs : List (ℕ × A)) (k : ℕ) → value_at (without xs k) k ≡ None → (b : Bool) → (x.0 == k) ≡ b → value_at (without (x ∷ xs) k) k ≡ None
  none_by x xs k later true is = ap (λ (b : Bool). value_at (cond (not b) (x ∷ without xs k) (without xs k)) k) is ∙ later
  none_by x xs k later false is = ap (λ (b : Bool). value_at (cond (not b) (x ∷ without xs k) (without xs k)) k) is ∙ at_cons x (without xs k) k false is ∙ later

  pub none_without : (xs : List (ℕ × A)) (k : ℕ) → value_at (without xs k) k ≡ None
  none_without [] k = refl
  none_without (x ∷ xs) k = none_by x xs k (none_without xs k) (x.0 == k) refl
