-- Digits, and the value that they go on to from another.
use Rattle.std.proofs.Common.{arith, refl, ◌≡◌, ◌+◌, ◌-◌, ◌*◌, ◌^◌, ◌<◌, ◌≤◌, ℕ, List, [], ◌∷◌, length, drop, get_or, drop-cons, add-one, fold}
use Rattle.std.proofs.Math.Nat.{pow-le-pow_right}

-- the value of digits after those that gave `value`
abbrev pub value_from : ℕ → List ℕ → ℕ
value_from value digits = fold (λ n d. 10 * n + (d - 48)) value digits

-- more digits make no smaller value
pub least : (value : ℕ) (digits : List ℕ) → value ≤ value_from value digits
least value [] = omega arith
least value (d ∷ ds) = let more = least (10 * value + (d - 48)) ds in omega arith

-- one more digit
pub next : (value : ℕ) (digits : List ℕ) (i : ℕ) → i < length digits
    → value_from value (drop i digits) ≡ value_from (10 * value + (get_or digits i 0 - 48)) (drop (i + 1) digits)
next value digits i lt = rw (add-one, drop-cons digits i 0) refl

-- the value of few digits has room for one more
pub room : (value i : ℕ) → value < 10 ^ i → i < 19 → 10 * value + 9 < 2 ^ 64
room value i small few =
    let ten : 0 < 10 = omega arith in
    let most : 10 ^ i ≤ 10 ^ 18 = pow-le-pow_right ten {i = i} {j = 18} (omega arith) in
    omega (arith, small, most)
