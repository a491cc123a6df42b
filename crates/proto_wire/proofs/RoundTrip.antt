-- What is written is read again.
use Rattle.std.proofs.Common.{◌≡◌, ℕ, zero, suc, ◌+◌, ◌-◌, ◌*◌, ◌/◌, ◌%◌, ◌^◌, ◌<◌, ◌≤◌, Bool, true, false, List, [], ◌∷◌, ◌++◌, length, get_or, cond, ltb, Result, Ok, Err, refl, sym, ap, ◌∙◌, arith, inl, inr}
use Rattle.std.proofs.lemmas.Bool.{lt-ltb, le-ltb, cases_lt, cond-true, cond-false, cond_both}
use Rattle.std.proofs.lemmas.Nat.{div_below}
use Rattle.proto_wire.specs.declared.field.WireFault.{WireFault}
use Rattle.proto_wire.specs.declared.field.WireFault.TheVariants.{LongVarint}
use Rattle.proto_wire.specs.Steps.{◌>>=◌}
use Rattle.proto_wire.specs.Varint.{groups, varint, number_in, varint_at}
use Rattle.proto_wire.proofs.VarintLemmas.{limit, groups_one, groups_step}

-- ---- numbers

small_first : (at more n : ℕ) (rest : List ℕ) → n < 128 → n < limit more → number_in at more (n ∷ rest) ≡ Ok (n, 1)
unfolding number_in
small_first at zero n rest small below = cond-false (ltb 1 n) _ _ (le-ltb 1 n (omega arith))
small_first at (suc more) n rest small below = cond-true (ltb n 128) _ _ (lt-ltb n 128 small)

number_in-groups : (at more n : ℕ) (rest : List ℕ) → n < limit more → number_in at more (groups more n ++ rest) ≡ Ok (n, length (groups more n))
unfolding number_in
number_in-groups at zero n rest below =
    let one = groups_one 0 n (omega arith) in
    ap (λ (x : List ℕ). number_in at 0 (x ++ rest)) one ∙ small_first at 0 n rest (omega arith) below ∙ ap (λ (x : List ℕ). Ok (n, length x)) (sym one)
number_in-groups at (suc more) n rest below =
    elim (cases_lt n 128) [
      | inl small ↦
          let one = groups_one (suc more) n small in
          ap (λ (x : List ℕ). number_in at (suc more) (x ++ rest)) one ∙ small_first at (suc more) n rest small below ∙ ap (λ (x : List ℕ). Ok (n, length x)) (sym one)
      | inr large ↦
          let step = groups_step more n large in
          let b = 128 + n % 128 in
          let high = number_in-groups at more (n / 128) rest (div_below n 128 (limit more) (omega arith) below) in
          let here : number_in at (suc more) (b ∷ (groups more (n / 128) ++ rest)) ≡ (number_in at more (groups more (n / 128) ++ rest) >>= λ h. Ok (b - 128 + 128 * h.0, 1 + h.1)) = cond-false (ltb b 128) _ _ (le-ltb b 128 (omega arith)) in
          let value : b - 128 + 128 * (n / 128) ≡ n = omega arith in
          let size : 1 + length (groups more (n / 128)) ≡ suc (length (groups more (n / 128))) = omega arith in
          ap (λ (x : List ℕ). number_in at (suc more) (x ++ rest)) step ∙ here ∙ ap (λ (r : Result (ℕ × ℕ) WireFault). r >>= λ h. Ok (b - 128 + 128 * h.0, 1 + h.1)) high
          ∙ ap (λ (v : ℕ). Ok (v, 1 + length (groups more (n / 128)))) value ∙ ap (λ (k : ℕ). Ok (n, k)) size ∙ ap (λ (x : List ℕ). Ok (n, length x)) (sym step)
    ]

-- a number is read again from its shortest varint
pub varint_at-varint : (at n : ℕ) (rest : List ℕ) → n < 2 ^ 64 → varint_at at (varint n ++ rest) ≡ Ok (n, length (varint n))
varint_at-varint at n rest below = number_in-groups at 9 n rest below

-- ---- the shortest

abbrev IsBytes : List ℕ → Type 0
IsBytes bytes = (i : ℕ) → get_or bytes i 0 < 256

abbrev done : ℕ × ℕ → Result (ℕ × ℕ) WireFault
done x = Ok x

ok_is : (x y : ℕ × ℕ) → done x ≡ done y → x ≡ y
ok_is x y e = cc

cond_ok : (b : Bool) (e : WireFault) (x y : ℕ × ℕ) → cond {A = Result (ℕ × ℕ) WireFault} b (Err e) (Ok x) ≡ Ok y → x ≡ y
cond_ok true e x y is = absurd cc
cond_ok false e x y is = cc

bind_ok : (r : Result (ℕ × ℕ) WireFault) (f : ℕ × ℕ → ℕ × ℕ) (y : ℕ × ℕ) → (r >>= λ x. Ok (f x)) ≡ Ok y → (x : ℕ × ℕ) × (r ≡ Ok x) × (f x ≡ y)
bind_ok (Ok x) f y is = (x, refl, cc)
bind_ok (Err e) f y is = absurd cc

length-groups_zero : (n : ℕ) → length (groups 0 n) ≡ 1
unfolding groups
length-groups_zero n = refl

length-groups_one : (more n : ℕ) → n < 128 → length (groups more n) ≡ 1
length-groups_one more n small = ap length (groups_one more n small)

pub groups-shortest : (at more : ℕ) (bytes : List ℕ) (n size : ℕ) → IsBytes bytes → number_in at more bytes ≡ Ok (n, size) → length (groups more n) ≤ size
unfolding number_in
groups-shortest at more [] n size fits read = absurd cc
groups-shortest at zero (b ∷ bytes) n size fits read =
    let is = cond_ok (ltb 1 b) (LongVarint at) (b, 1) (n, size) read in
    omega (arith, length-groups_zero n, ap (λ (x : ℕ × ℕ). x.1) is)
groups-shortest at (suc more) (b ∷ bytes) n size fits read =
    elim (cases_lt b 128) [
      | inl small ↦
          let is : done (b, 1) ≡ Ok (n, size) = sym (cond-true (ltb b 128) _ _ (lt-ltb b 128 small)) ∙ read in
          let both = ok_is (b, 1) (n, size) is in
          let value : b ≡ n = ap (λ (x : ℕ × ℕ). x.0) both in
          let one : 1 ≡ size = ap (λ (x : ℕ × ℕ). x.1) both in
          omega (arith, length-groups_one (suc more) n (omega arith))
      | inr large ↦
          let is = bind_ok (number_in at more bytes) (λ h. (b - 128 + 128 * h.0, 1 + h.1)) (n, size) (sym (cond-false (ltb b 128) _ _ (le-ltb b 128 large)) ∙ read) in
          let value : b - 128 + 128 * is.0.0 ≡ n = ap (λ (x : ℕ × ℕ). x.0) is.2 in
          let total : 1 + is.0.1 ≡ size = ap (λ (x : ℕ × ℕ). x.1) is.2 in
          let rest : length (groups more is.0.0) ≤ is.0.1 = groups-shortest at more bytes is.0.0 is.0.1 (λ i. fits (suc i)) is.1 in
          elim (cases_lt n 128) [
            | inl small ↦ omega (arith, length-groups_one (suc more) n small)
            | inr more_than ↦
                let low : b < 256 = fits 0 in
                let high : n / 128 ≡ is.0.0 = omega arith in
                omega (arith, ap length (groups_step more n more_than), ap (λ (k : ℕ). length (groups more k)) high)
          ]
    ]

-- a varint has a byte at least, and at most ten
pub groups-some : (more n : ℕ) → 0 < length (groups more n)
unfolding groups
groups-some zero n = omega arith
groups-some (suc more) n = cond_both (ltb n 128) (n ∷ []) ((128 + n % 128) ∷ groups more (n / 128)) (λ x. 0 < length x) (λ _. omega arith) (λ _. omega arith)

pub groups-few : (more n : ℕ) → length (groups more n) ≤ more + 1
unfolding groups
groups-few zero n = omega arith
groups-few (suc more) n = cond_both (ltb n 128) (n ∷ []) ((128 + n % 128) ∷ groups more (n / 128)) (λ x. length x ≤ suc more + 1) (λ _. omega arith) (λ _. omega (arith, groups-few more (n / 128)))
