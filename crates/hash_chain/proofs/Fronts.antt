-- Two lists whose fronts are as long are equal part by part.
use Rattle.std.proofs.Common.{◌≡◌, ℕ, List, ◌++◌, length, take, drop, refl, sym, ap, ◌∙◌}
use Rattle.std.proofs.lemmas.List.{take_at, drop_at}

pub same_front : (p q r s : List ℕ) → length p ≡ length q → p ++ r ≡ q ++ s → p ≡ q
same_front p q r s long e = sym (take_at p r (length p) refl) ∙ ap (take (length p)) e ∙ take_at q s (length p) (sym long)

pub same_rest : (p q r s : List ℕ) → length p ≡ length q → p ++ r ≡ q ++ s → r ≡ s
same_rest p q r s long e = sym (drop_at p r (length p) refl) ∙ ap (drop (length p)) e ∙ drop_at q s (length p) (sym long)
