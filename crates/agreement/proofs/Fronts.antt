-- Fronts of paths.
use Rattle.std.proofs.Common.{◌≡◌, inl, inr, [], ◌∷◌, ◌++◌, refl, sym, ap, ◌∙◌, append_assoc}
use Rattle.values.specs.declared.entry.LogEntry.{LogEntry}
use Rattle.replica_model.specs.Path.{Path}
use Rattle.group_model.specs.Log.{IsFrontOf}
use Rattle.agreement.specs.Promised.{IsComparable}

pub begins : (p q w : Path) → IsFrontOf p q → IsFrontOf q w → IsFrontOf p w
begins p q w a b = (a.0 ++ b.0, sym (append_assoc p a.0 b.0) ∙ (ap (λ x. x ++ b.0) a.1 ∙ b.1))

-- one entry further on a path
pub first_of_front : (c : Path) (a : LogEntry) (r : Path) → IsFrontOf (c ++ a ∷ []) (c ++ a ∷ r)
first_of_front c a r = (r, append_assoc c (a ∷ []) r)

-- two fronts of one path are comparable
pub both_fronts : (p q w : Path) → IsFrontOf p w → IsFrontOf q w → IsComparable p q
both_fronts [] q w a b = inl (q, refl)
both_fronts (x ∷ p) [] w a b = inr (x ∷ p, refl)
both_fronts (x ∷ p) (y ∷ q) [] a b = absurd (let none : x ∷ (p ++ a.0) ≡ [] = a.1 in cc)
both_fronts (x ∷ p) (y ∷ q) (z ∷ w) a b =
    let one : x ∷ (p ++ a.0) ≡ z ∷ w = a.1 in
    let two : y ∷ (q ++ b.0) ≡ z ∷ w = b.1 in
    let tail : p ++ a.0 ≡ w = cc in
    let tail' : q ++ b.0 ≡ w = cc in
    let same : x ≡ y = cc in
    elim (both_fronts p q w (a.0, tail) (b.0, tail')) [
      | inl pre ↦ inl (pre.0, let t : p ++ pre.0 ≡ q = pre.1 in cc)
      | inr pre ↦ inr (pre.0, let t : q ++ pre.0 ≡ p = pre.1 in cc)
    ]
