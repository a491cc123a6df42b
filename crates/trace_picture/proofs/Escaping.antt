-- What is written in place of bytes.
use Rattle.std.proofs.Common.{◌≡◌, ℕ, ◌==◌, ◌&&◌, ◌||◌, not, if◌then◌else◌, Bool, true, false, List, [], ◌∷◌, ◌++◌, refl, ap, ◌∙◌}
use Rattle.std.specs.Prelude.{codes}
use Rattle.std.specs.List.{list_all}
use Rattle.trace_picture.specs.Escapes.{entity, escaped, is_inert, is_printed}

inert_byte : (b : ℕ) → (b == 60) ≡ false → (b == 62) ≡ false → (b == 34) ≡ false → is_inert b ≡ true
inert_byte b lt gt quot =
    ap (λ (x : Bool). not (x || ((b == 62) || (b == 34)))) lt ∙ ap (λ (x : Bool). not (x || (b == 34))) gt ∙ ap (λ (x : Bool). not x) quot

by_tests : (b : ℕ) (lt gt amp quot printed : Bool) → (b == 60) ≡ lt → (b == 62) ≡ gt → (b == 34) ≡ quot
    → list_all is_inert (if lt then codes "&lt;" else if gt then codes "&gt;" else if amp then codes "&amp;" else if quot then codes "&quot;" else if printed then b ∷ [] else codes "?") ≡ true
by_tests b true gt amp quot printed e f g = refl
by_tests b false true amp quot printed e f g = refl
by_tests b false false true quot printed e f g = refl
by_tests b false false false true printed e f g = refl
by_tests b false false false false true e f g = ap (λ (x : Bool). x && true) (inert_byte b e f g)
by_tests b false false false false false e f g = refl

pub inert_entity : (b : ℕ) → list_all is_inert (entity b) ≡ true
inert_entity b = by_tests b (b == 60) (b == 62) (b == 38) (b == 34) (is_printed b) refl refl refl

behind : (t u v : Bool) → (u ≡ true → v ≡ true) → (t && u) ≡ true → (t && v) ≡ true
behind true u v f p = f p
behind false u v f p = p

pub inert_both : (xs ys : List ℕ) → list_all is_inert xs ≡ true → list_all is_inert ys ≡ true → list_all is_inert (xs ++ ys) ≡ true
inert_both [] ys p q = q
inert_both (x ∷ xs) ys p q = behind (is_inert x) (list_all is_inert xs) (list_all is_inert (xs ++ ys)) (λ r. inert_both xs ys r q) p

pub inert_text : (text : List ℕ) → list_all is_inert (escaped text) ≡ true
inert_text [] = refl
inert_text (b ∷ text) = inert_both (entity b) (escaped text) (inert_entity b) (inert_text text)
