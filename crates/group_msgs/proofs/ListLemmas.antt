-- What is kept of a list that is read.
use Rattle.std.proofs.Common.{◌≡◌, ℕ, ◌+◌, ◌<◌, ◌≤◌, List, [], ◌∷◌, ◌++◌, length, get_or, map, take, sym, ap, ◌∙◌, inl, inr, arith}
use Rattle.std.proofs.lemmas.Bool.{cases_lt}
use Rattle.std.proofs.lemmas.List.{map-append, take_more, take_all, take-append-le, length_push, length-take-le, length-map}

module _ {X Y : Type 0} (f : X → Y) (most : ℕ) (all : List Y) (x : X) where
  -- one more, where there is room
  pub kept-more : (items : List X) → map f items ≡ take most all → length items < most → map f (items ++ x ∷ []) ≡ take most (all ++ f x ∷ [])
  kept-more items kept room =
      let long : length items ≡ length (take most all) = sym (length-map items f) ∙ ap length kept in
      let few : length all < most =
      elim (cases_lt (length all) most) [
        | inl few ↦ few
        | inr many ↦ absurd (omega (arith, long, length-take-le most all many))
      ] in
      map-append f items (x ∷ []) ∙ ap (λ (ys : List Y). ys ++ f x ∷ []) (kept ∙ take_all most all (omega arith)) ∙ sym (take_all most (all ++ f x ∷ []) (omega (arith, length_push all (f x))))

  -- and where there is none
  pub kept-full : (items : List X) → map f items ≡ take most all → length items ≡ most → map f items ≡ take most (all ++ f x ∷ [])
  kept-full items kept full =
      let long : length items ≡ length (take most all) = sym (length-map items f) ∙ ap length kept in
      let many : most ≤ length all =
      elim (cases_lt (length all) most) [
        | inl few ↦ absurd (omega (arith, long, full, ap length (take_all most all (omega arith))))
        | inr many ↦ many
      ] in
      kept ∙ sym (take-append-le most all (f x ∷ []) many)

-- one more item is made of one more place
pub made-more : {X Y Z : Type 0} (f : Y → Z) (g : X → Y) (xs : List X) (i : ℕ) (d : X) (old new : List Z) (z : Z) → i < length xs → new ≡ old ++ z ∷ [] → old ≡ map f (map g (take i xs)) → z ≡ f (g (get_or xs i d)) → new ≡ map f (map g (take (i + 1) xs))
made-more f g xs i d old new z within pushed made is =
    pushed ∙ ap (λ (zs : List _). zs ++ z ∷ []) made ∙ ap (λ (y : _). map f (map g (take i xs)) ++ y ∷ []) is
    ∙ sym (ap (λ (ys : List _). map f (map g ys)) (take_more xs i d within) ∙ ap (map f) (map-append g (take i xs) (get_or xs i d ∷ [])) ∙ map-append f (map g (take i xs)) (g (get_or xs i d) ∷ []))
