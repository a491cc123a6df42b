-- A list is strictly rising exactly where each number is below the next.
use Rattle.std.proofs.Common.{arith, subst, ◌≡◌, ◌+◌, ◌<◌, ℕ, List, [], ◌∷◌, get_or, suc, zero}
use Rattle.std.specs.List.Sorted.{IsStrictlyIncreasing}
use Rattle.std.proofs.lemmas.List.Elements.{recursion_from_All, All-from_recursion}
use Rattle.std.proofs.lemmas.List.Kept.{AllPairs-from_increasing}
use Rattle.values.specs.Rising.{Rising}

pub rising_from_increasing : (xs : List ℕ) → IsStrictlyIncreasing xs → Rising xs
rising_from_increasing [] h = tt
rising_from_increasing (x ∷ xs) h = (
  recursion_from_All (λ y. x < y) xs (λ k d within. AllPairs-from_increasing (x ∷ xs) h zero (suc k) d (omega arith) (omega arith)),
  rising_from_increasing xs (λ k within. let e : suc k + 1 ≡ suc (k + 1) = omega arith in subst (λ n. get_or xs k 0 < get_or (x ∷ xs) n 0) e (h (suc k) (omega arith))),
)

pub increasing_from_rising : (xs : List ℕ) → Rising xs → IsStrictlyIncreasing xs
increasing_from_rising [] h k within = absurd (omega arith)
increasing_from_rising (x ∷ xs) h zero within = All-from_recursion (λ y. x < y) xs h.0 zero 0 (omega arith)
increasing_from_rising (x ∷ xs) h (suc k) within =
    let e : suc (k + 1) ≡ suc k + 1 = omega arith in
    subst (λ n. get_or xs k 0 < get_or (x ∷ xs) n 0) e (increasing_from_rising xs h.1 k (omega arith))
