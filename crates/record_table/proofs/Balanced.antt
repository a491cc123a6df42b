-- Balanced trees: their sizes and levels.
use Rattle.std.proofs.Common.{◌≡◌, ℕ, zero, suc, ◌+◌, ◌*◌, ◌/◌, ◌^◌, ◌≤◌, max, ◌∷◌, length, refl, sym, subst, arith, length-append}
use Rattle.std.proofs.Math.Pow.{pow_mono}
use Rattle.values.specs.declared.row.Row.{Row}
use Rattle.record_table.specs.Trees.{Tree, rows_of, size_of, levels_of, IsBalanced, forked}
use Rattle.record_table.specs.Trees.Tree.{Empty, Fork}

pub size_is : (t : Tree) → IsBalanced t → size_of t ≡ length (rows_of t)
size_is Empty b = refl
size_is (Fork l r t s v) b = omega (arith, b.0.sized, length-append (rows_of l) (r ∷ rows_of t))

pub levels_few : (t : Tree) → IsBalanced t → levels_of t ≤ length (rows_of t)
levels_few Empty b = omega arith
levels_few (Fork l r t s v) b =
    omega (arith, b.0.high, levels_few l b.1, levels_few t b.2, length-append (rows_of l) (r ∷ rows_of t))

-- ---- the levels are few: half of them, as a power of two, are no more than the rows and one

doubled : (w h k m n : ℕ) → w ≤ h → w ≤ k → 2 ^ (h / 2) ≤ m → 2 ^ (k / 2) ≤ n → 2 ^ (suc (suc w) / 2) ≤ m + n
doubled w h k m n low low_too one two =
    let a : 2 ^ (w / 2) ≤ 2 ^ (h / 2) = pow_mono (omega arith) in
    let b : 2 ^ (w / 2) ≤ 2 ^ (k / 2) = pow_mono (omega arith) in
    let half : suc (suc w) / 2 ≡ suc (w / 2) = omega arith in
    let twice : 2 ^ suc (w / 2) ≡ 2 * 2 ^ (w / 2) = omega arith in
    subst (λ e. 2 ^ e ≤ m + n) (sym half) (omega arith)

bound_from : (v h k m n : ℕ) → v ≡ max h k + 1 → h ≤ k + 1 → k ≤ h + 1 → 2 ^ (h / 2) ≤ m + 1 → 2 ^ (k / 2) ≤ n + 1 → 2 ^ (v / 2) ≤ m + n + 1 + 1
bound_from zero h k m n e low low_too one two = absurd (omega arith)
bound_from (suc zero) h k m n e low low_too one two = omega arith
bound_from (suc (suc w)) h k m n e low low_too one two =
    let d = doubled w h k (m + 1) (n + 1) (omega arith) (omega arith) one two in omega arith

pub levels_bound : (t : Tree) → IsBalanced t → 2 ^ (levels_of t / 2) ≤ length (rows_of t) + 1
levels_bound Empty b = omega arith
levels_bound (Fork l r t s v) b =
    let d = bound_from v (levels_of l) (levels_of t) (length (rows_of l)) (length (rows_of t)) b.0.high b.0.left_low b.0.right_low (levels_bound l b.1) (levels_bound t b.2) in
    omega (arith, length-append (rows_of l) (r ∷ rows_of t))

-- ---- a row between two trees

pub forked_balanced : (l t : Tree) (r : Row) → IsBalanced l → IsBalanced t → levels_of l ≤ levels_of t + 1 → levels_of t ≤ levels_of l + 1 → IsBalanced (forked l r t)
forked_balanced l t r bl bt left_low right_low =
    (record { sized = (let a = size_is l bl in let b = size_is t bt in omega arith); high = refl; left_low = left_low; right_low = right_low }, bl, bt)
