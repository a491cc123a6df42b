-- Lists of values under ids, in rising order of the ids.
use Rattle.std.specs.Prelude.{ℕ, Bool, not, cond, ◌==◌, nat_lt, Option, List, [], ◌∷◌, find, filter, option_map, is_some}

module _ {A : Type 0} where
  -- what stands under an id
  abbrev pub value_at : List (ℕ × A) → ℕ → Option A
  value_at xs k = option_map (λ x. x.1) (find (λ x. x.0 == k) xs)

  abbrev pub has : List (ℕ × A) → ℕ → Bool
  has xs k = is_some (value_at xs k)

  -- the list with this value under the id, in the place of what stood there
  abbrev pub put : List (ℕ × A) → ℕ → A → List (ℕ × A)
  put [] k a = (k, a) ∷ []
  put (x ∷ xs) k a =
      cond (x.0 == k) ((k, a) ∷ xs) (cond (nat_lt k x.0) ((k, a) ∷ x ∷ xs) (x ∷ put xs k a))

  -- the list with nothing under the id
  abbrev pub without : List (ℕ × A) → ℕ → List (ℕ × A)
  without xs k = filter (λ x. not (x.0 == k)) xs
