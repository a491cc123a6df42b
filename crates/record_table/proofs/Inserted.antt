-- A list with one element more.
use Rattle.std.proofs.Common.{◌≡◌, ℕ, List, ◌∷◌, ◌++◌, map, take, drop, sym, ◌∙◌}
use Rattle.std.specs.Prelude.{insert, All}
use Rattle.std.proofs.lemmas.List.{map-append, take-map, drop-map}
use Rattle.std.proofs.lemmas.List.Elements.{All-append, All-cons, All-take, All-drop}

pub map-insert : {X Y : Type 0} (f : X → Y) (xs : List X) (at : ℕ) (x : X) → map f (insert xs at x) ≡ insert (map f xs) at (f x)
map-insert f xs at x =
    map-append f (take at xs) (x ∷ drop at xs) ∙ (λ i. sym (take-map f at xs) i ++ f x ∷ sym (drop-map f at xs) i)

pub All-insert : {X : Type 0} (P : X → Type 0) (xs : List X) (at : ℕ) (x : X) → All P xs → P x → All P (insert xs at x)
All-insert P xs at x each here =
    All-append P (take at xs) (x ∷ drop at xs) (All-take P at xs each) (All-cons P x (drop at xs) here (All-drop P at xs each))
