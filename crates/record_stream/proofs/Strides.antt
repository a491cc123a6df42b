-- Bytes that are looked at 64 at a time.
use Rattle.std.proofs.Common.{arith, refl, sym, ap, ◌∙◌, ◌≡◌, ◌≢◌, ◌+◌, ◌-◌, ◌*◌, ◌%◌, ◌^◌, ◌<◌, ◌≤◌, ◌&&◌, ℕ, List, ◌++◌, length, drop, get_or, map, replicate, Bool, true, false, cond, leb, ltb, bit_and, pow_mono, w8, w64, Fits, inl, inr}
use Rattle.std.proofs.Math.ListN.{get_or-map}
use Rattle.std.proofs.Math.Nat.{div-eq_of_lt}
use Rattle.std.proofs.Math.Seq.{get_or-append_right}
use Rattle.std.proofs.lemmas.Bool.{agree_below_at, cases_eq, cases_lt, le-leb, leb-false, ltb-false, or_parts}
use Rattle.std.proofs.lemmas.List.{get_or-drop, get_or-replicate, length-drop}
use Rattle.std.proofs.lemmas.Nat.{and_le_l}
use Rattle.std.proofs.lemmas.Nat.Bits.{bit_at-lt, bit_at-trailing_zeros, bit_at-zero, bit_at_and, bit_at_clear_other, bit_at_clear_same}
use Rattle.std.proofs.lemmas.Simd.{Each1-get_or, bit_mask_l, get_or-zip2}
use Rattle.std.specs.Int.{bit_at, bit_not, trailing_zeros}
use Rattle.std.specs.Simd.Lanes.{Each1, mask_l, zip2}
use Rattle.memchr.specs.Find.{NoneBefore, Nowhere, Passes}
use Rattle.record_stream.specs.Plain.{is_marked}
use Rattle.record_stream.specs.Walk.{IsWalk, bit_of, may_mean}

-- ---- the bits of 64 bytes

-- moved up by 128, a byte that may mean something is below 173
abbrev pub moved : ℕ → ℕ → ℕ
moved a b = (a + b) % 256

moved_tells : (b : ℕ) → b < 256 → ltb (moved b 128) 173 ≡ may_mean b
moved_tells b lt = agree_below_at (λ b. ltb (moved b 128) 173) may_mean 256 b refl lt

pub bit_is : (bytes : List ℕ) → length bytes ≡ 64 → Each1 (Fits w8) bytes → (k : ℕ) → k < 64
    → bit_at (mask_l (map (λ x. ltb x 173) (zip2 moved bytes (replicate 64 128)))) k ≡ bit_of (may_mean (get_or bytes k 0))
bit_is bytes long fits k lt =
    let all = zip2 moved bytes (replicate 64 128) in
    let here : get_or all k 200 ≡ moved (get_or bytes k 0) 128 =
    get_or-zip2 moved bytes (replicate 64 128) k 0 0 200 (omega arith) lt ∙ ap (moved (get_or bytes k 0)) (get_or-replicate 64 k 128 0 lt) in
    let small = (Each1-get_or (Fits w8) bytes k 0 (omega arith) fits).fits in
    bit_mask_l (map (λ x. ltb x 173) all) k
    ∙ ap (λ b. cond b 1 0) (get_or-map (λ x. ltb x 173) all k 200 ∙ ap (λ x. ltb x 173) here ∙ moved_tells (get_or bytes k 0) small)

-- no bit stands for a byte past the 64th
pub bit_within : (m k : ℕ) → m < 2 ^ 64 → bit_at m k ≡ 1 → k < 64
bit_within m k small set = elim (cases_lt k 64) [
  | inl lt ↦ lt
  | inr ge ↦
      let none : bit_at m k ≡ 0 = ap (λ n. n % 2) (div-eq_of_lt (let more = pow_mono {i = 64} {j = k} ge in omega arith)) in
      cc (sym none ∙ set)
]

-- bytes before digits: no digit may mean anything
pub pad_within : (bytes new : List ℕ) (m k : ℕ) → new ≡ bytes → k < 64 → bit_at m k ≡ bit_of (may_mean (get_or (new ++ drop (length bytes) (replicate 64 48)) k 0)) → bit_at m k ≡ 1 → k < length bytes
pad_within bytes new m k same lt is set = elim (cases_lt k (length bytes)) [
  | inl below ↦ below
  | inr ge ↦
      let digit : get_or (bytes ++ drop (length bytes) (replicate 64 48)) k 0 ≡ 48 =
      get_or-append_right bytes (drop (length bytes) (replicate 64 48)) k 0 ge ∙ get_or-drop (length bytes) (replicate 64 48) (k - length bytes) 0
      ∙ ap (λ (n : ℕ). get_or (replicate 64 48) n 0) (let e : length bytes + (k - length bytes) ≡ k = omega arith in e) ∙ get_or-replicate 64 k 48 0 lt in
      let clear = rw (same, digit) at is in
      cc (sym clear ∙ set)
]

-- ---- a walk

pub middle_unmarked : (b : ℕ) → may_mean b ≡ false → is_marked b ≡ true → ⊥
middle_unmarked b e marked =
    let (up, down) = or_parts (ltb b 45) (leb 128 b) e in
    let low = ltb-false b 45 up in
    let none : (is_marked b && leb 45 b) ≡ false = agree_below_at (λ b. is_marked b && leb 45 b) (λ b. false) 128 b refl (leb-false 128 b down) in
    cc (rw (marked, le-leb 45 b low) at none)

clear_bit : (b : Bool) → bit_of b ≡ 0 → b ≡ false
clear_bit true e = cc e
clear_bit false e = refl

-- the next 64 bytes are looked at
pub walk_from : (piece : List ℕ) (from base m : ℕ) → from ≤ base → base ≤ length piece → m < 2 ^ 64 → Nowhere (Passes is_marked piece) from base
    → ((k : ℕ) → k < 64 → k < length (drop base piece) → bit_at m k ≡ bit_of (may_mean (get_or (drop base piece) k 0)))
    → ((k : ℕ) → bit_at m k ≡ 1 → k < length (drop base piece))
    → IsWalk piece from base m
walk_from piece from base m low high small passed each within = record {
  within = omega arith;
  based = high;
  near = omega arith;
  fits = small;
  passed = passed;
  clear = λ k lt above below zero p.
      let is = each k lt (omega (arith, length-drop base piece)) in
      let none = clear_bit (may_mean (get_or (drop base piece) k 0)) (sym is ∙ zero) in
      middle_unmarked (get_or (drop base piece) k 0) none (ap is_marked (get_or-drop base piece k 0) ∙ p);
  low = λ k set. omega arith;
  high = λ k set. omega (arith, within k set, length-drop base piece);
}

-- no bit is left of those that were looked at
pub walk_none : (piece : List ℕ) (from base m : ℕ) → IsWalk piece from base m → m ≡ 0 → (k : ℕ) → from ≤ k → k < base + 64 → k < length piece → ¬ Passes is_marked piece k
walk_none piece from base m w none k low high lt p = elim (cases_lt k base) [
  | inl below ↦ w.passed k low below p
  | inr above ↦
      let place : base + (k - base) ≡ k = omega arith in
      let zero : bit_at m (k - base) ≡ 0 = rw none (bit_at-zero (k - base)) in
      w.clear (k - base) (omega arith) (omega arith) (omega arith) zero (rw place p)
]

module _ (piece : List ℕ) (from base m : ℕ) (w : IsWalk piece from base m) (some : m ≢ 0) where
  lowest : (trailing_zeros w64 m < 64) × (bit_at m (trailing_zeros w64 m) ≡ 1) × ((i : ℕ) → i < trailing_zeros w64 m → bit_at m i ≡ 0)
  lowest = bit_at-trailing_zeros w64 m (omega (arith, some)) w.fits

  -- the lowest bit is that of the next byte that may mean something
  pub walk_found : NoneBefore (Passes is_marked piece) from (length piece) (base + trailing_zeros w64 m)
  walk_found = record {
    low = w.low (trailing_zeros w64 m) lowest.1;
    high = w.high (trailing_zeros w64 m) lowest.1;
    before = λ k low high p. elim (cases_lt k base) [
      | inl below ↦ w.passed k low below p
      | inr above ↦
          let place : base + (k - base) ≡ k = omega arith in
          let end = w.high (trailing_zeros w64 m) lowest.1 in
          w.clear (k - base) (omega (arith, lowest.0)) (omega arith) (omega arith) (lowest.2 (k - base) (omega arith)) (rw place p)
    ];
  }

  -- it is cleared
  pub walk_next : IsWalk piece (base + trailing_zeros w64 m + 1) base (bit_and m (bit_not w64 (1 * 2 ^ trailing_zeros w64 m % 2 ^ 64)))
  walk_next =
      let at = trailing_zeros w64 m in
      let other = bit_at_clear_other w64 m at lowest.0 in
      record {
        within = let high = w.high at lowest.1 in omega arith;
        based = w.based;
        near = omega (arith, lowest.0);
        fits = let fits = w.fits in omega (arith, and_le_l m (bit_not w64 (1 * 2 ^ at % 2 ^ 64)));
        passed = λ k low high p. absurd (omega arith);
        clear = λ k lt above below zero.
            let apart : k ≢ at = λ e. omega arith in
            w.clear k lt (let low = w.low at lowest.1 in omega arith) below (sym (other k lt apart) ∙ zero);
        low = λ k set. later k set;
        high = λ k set. w.high k (was k set);
      }
    where
      was : (k : ℕ) → bit_at (bit_and m (bit_not w64 (1 * 2 ^ trailing_zeros w64 m % 2 ^ 64))) k ≡ 1 → bit_at m k ≡ 1
      was k set = omega (arith, set, bit_at_and m (bit_not w64 (1 * 2 ^ trailing_zeros w64 m % 2 ^ 64)) k, bit_at-lt m k)

      later : (k : ℕ) → bit_at (bit_and m (bit_not w64 (1 * 2 ^ trailing_zeros w64 m % 2 ^ 64))) k ≡ 1 → base + trailing_zeros w64 m + 1 ≤ base + k
      later k set = elim (cases_lt k (trailing_zeros w64 m)) [
        | inl below ↦ cc (sym (lowest.2 k below) ∙ was k set)
        | inr above ↦
            elim (cases_eq k (trailing_zeros w64 m)) [
              | inl same ↦ cc (sym (bit_at_clear_same w64 m (trailing_zeros w64 m) lowest.0) ∙ rw same at set)
              | inr apart ↦ omega (arith, apart)
            ]
      ]
