-- Digits in the lanes of vectors.
use Rattle.std.proofs.Common.{arith, refl, ap, ◌∙◌, ◌≡◌, ℕ, zero, suc, ◌+◌, ◌-◌, ◌*◌, ◌/◌, ◌%◌, ◌^◌, ◌<◌, ◌≤◌, Bool, true, false, ◌&&◌, cond, ltb, bit_and, bit_or, List, [], ◌∷◌, ◌++◌, map, length, get_or, slice_index, min, eqb-true, replicate, w8, Fits}
use Rattle.std.specs.Prelude.{nat_eq, nat_le, nat_lt}
use Rattle.std.specs.List.{list_all}
use Rattle.std.specs.Simd.Lanes.{Each1, digits_l, mask_l, number_l, pick_l, sel_l, top, zip2}
use Rattle.std.proofs.lemmas.Bool.Decides.{nat_tests}
use Rattle.hex.specs.Hex.{encode_with}
use Rattle.std.proofs.lemmas.Simd.{swz_l}
use Rattle.std.proofs.lemmas.Bool.{agree_below_at}
use Rattle.std.proofs.lemmas.Nat.{and_mask, pow_pos}
use Rattle.std.proofs.Math.Nat.{pow-succ'}
use Rattle.schedule_text.specs.Values.{ValuesOf, all_small, bytes_of, digit_or_16, halves_of}

-- the pairs of values as the digits of one number, each turned into a byte
pub joined_pairs : (values : List ℕ) (n : ℕ) → length values ≡ 2 * n → Each1 (Fits w8) values
    → map (λ pair. pair * 4097 % 65536 / 256) (digits_l 65536 n (number_l 256 values)) ≡ bytes_of values
joined_pairs [] zero size fits = refl
joined_pairs [] (suc n) size fits = absurd (omega arith)
joined_pairs (high ∷ []) n size fits = absurd (omega arith)
joined_pairs (high ∷ low ∷ rest) zero size fits = absurd (omega arith)
joined_pairs (high ∷ low ∷ rest) (suc n) size fits =
    let h = fits.0.fits in
    let l = fits.1.0.fits in
    let after = number_l 256 rest in
    let this : (high + 256 * (low + 256 * after)) % 65536 * 4097 % 65536 / 256 ≡ (16 * high + low) % 256 = omega arith in
    let others : (high + 256 * (low + 256 * after)) / 65536 ≡ after = omega arith in
    rw (this, others, joined_pairs rest n (omega arith) fits.1.1) refl

-- the larger of two is small where both are
larger_small : (x y : ℕ) → nat_lt (cond (ltb x y) y x) 16 ≡ nat_lt x 16 && nat_lt y 16
larger_small x y = grind (arith, nat_tests)

both_first : (a b c d : Bool) → (a && b) && (c && d) ≡ (a && c) && (b && d)
both_first a b c d = grind arith

pub larger_lanes : (xs ys : List ℕ) → length xs ≡ length ys → all_small (sel_l (zip2 ltb xs ys) ys xs) ≡ all_small xs && all_small ys
larger_lanes [] [] same = refl
larger_lanes [] (y ∷ ys) same = absurd (omega arith)
larger_lanes (x ∷ xs) [] same = absurd (omega arith)
larger_lanes (x ∷ xs) (y ∷ ys) same =
    rw (larger_small x y, larger_lanes xs ys (omega arith)) (both_first (nat_lt x 16) (nat_lt y 16) (all_small xs) (all_small ys))

one_bit : (b : Bool) (mask full : ℕ) (all : Bool) → 0 < full → nat_eq mask (full - 1) ≡ all → nat_eq (cond b 1 0 + 2 * mask) (2 * full - 1) ≡ b && all
one_bit true mask full all pos is = grind (arith, nat_tests)
one_bit false mask full all pos is = grind (arith, nat_tests)

-- all bits of a mask are set where all tests pass
pub all_bits : (p : ℕ → Bool) (xs : List ℕ) → nat_eq (mask_l (map p xs)) (2 ^ length xs - 1) ≡ list_all p xs
all_bits p [] = refl
all_bits p (x ∷ xs) =
    let twice : 2 ^ suc (length xs) ≡ 2 * 2 ^ length xs = pow-succ' 2 (length xs) in
    rw twice (one_bit (p x) (mask_l (map p xs)) (2 ^ length xs) (list_all p xs) (pow_pos (length xs)) (all_bits p xs))

-- ---- the values of digits

abbrev sum_of : ℕ → ℕ → ℕ
sum_of a b = (a + b) % 2 ^ 8

abbrev less : ℕ → ℕ → ℕ
less a b = (a + (2 ^ 8 - b)) % 2 ^ 8

abbrev below : ℕ → ℕ → ℕ
below a b = cond (ltb a b) 255 0

abbrev larger_of : List ℕ → List ℕ → List ℕ
larger_of xs ys = sel_l (map (top 7) (zip2 below xs ys)) ys xs

abbrev smaller_of : List ℕ → List ℕ → List ℕ
smaller_of xs ys = sel_l (map (top 7) (zip2 below xs ys)) xs ys

-- the values of n digits
abbrev pub values : List ℕ → ℕ → List ℕ
values digits n =
    smaller_of
    (zip2 less (zip2 less (larger_of (zip2 sum_of digits (replicate n 198)) (replicate n 6)) (replicate n 6)) (replicate n 240))
    (zip2 sum_of (smaller_of (zip2 less (zip2 bit_or digits (replicate n 32)) (replicate n 97)) (replicate n 245)) (replicate n 10))

abbrev value : ℕ → ℕ
value digit = get_or (values (digit ∷ []) 1) 0 0

is_value : ℕ → Bool
is_value digit = nat_eq (min (value digit) 16) (digit_or_16 digit)

each_value : (digit : ℕ) → digit < 256 → min (value digit) 16 ≡ digit_or_16 digit
unfolding is_value
each_value digit byte = eqb-true _ _ (agree_below_at is_value (λ _. true) 256 digit refl byte)

all_values : (digits : List ℕ) → Each1 (Fits w8) digits → ValuesOf digits (values digits (length digits))
all_values [] bytes = refl
all_values (digit ∷ digits) bytes = rw (each_value digit bytes.0.fits, all_values digits bytes.1) refl

pub of_sixteen : (digits : List ℕ) → length digits ≡ 16 → Each1 (Fits w8) digits → ValuesOf digits (values digits 16)
of_sixteen digits size bytes = rw size at (all_values digits bytes)

-- ---- the digits of bytes

low_four : (byte : ℕ) → bit_and byte 15 ≡ byte % 16
low_four byte = and_mask byte 4

highs : (bytes : List ℕ) → zip2 (λ a b. a / 2 ^ b) bytes (replicate (length bytes) 4) ≡ map (λ b. b / 16) bytes
highs [] = refl
highs (byte ∷ bytes) = ap (λ l. byte / 16 ∷ l) (highs bytes)

lows : (bytes : List ℕ) → zip2 bit_and bytes (replicate (length bytes) 15) ≡ map (λ b. b % 16) bytes
lows [] = refl
lows (byte ∷ bytes) = rw (low_four byte, lows bytes) refl

abbrev in_turn : List ℕ
in_turn = 0 ∷ 8 ∷ 1 ∷ 9 ∷ 2 ∷ 10 ∷ 3 ∷ 11 ∷ 4 ∷ 12 ∷ 5 ∷ 13 ∷ 6 ∷ 14 ∷ 7 ∷ 15 ∷ []

eight : (bytes : List ℕ) → length bytes ≡ 8 → pick_l 0 (map (λ b. b / 16) bytes ++ map (λ b. b % 16) bytes) in_turn ≡ halves_of bytes
eight (a ∷ b ∷ c ∷ d ∷ e ∷ f ∷ g ∷ h ∷ []) size = refl
eight bytes size = absurd (omega arith)

pub eight_halves : (bytes : List ℕ) → length bytes ≡ 8
    → pick_l 0 (zip2 (λ a b. a / 2 ^ b) bytes (replicate 8 4) ++ zip2 bit_and bytes (replicate 8 15)) in_turn ≡ halves_of bytes
eight_halves bytes size =
    let high = rw size at (highs bytes) in
    let low = rw size at (lows bytes) in
    ap (λ l. pick_l 0 (l ++ zip2 bit_and bytes (replicate 8 15)) in_turn) high
    ∙ ap (λ l. pick_l 0 (map (λ b. b / 16) bytes ++ l) in_turn) low ∙ eight bytes size

pub halves_small : (bytes : List ℕ) → Each1 (Fits w8) bytes → Each1 (λ v. v < 16) (halves_of bytes)
halves_small [] fits = tt
halves_small (byte ∷ bytes) fits =
    let small = fits.0.fits in
    (omega (arith, small), (omega arith, halves_small bytes fits.1))

pub length_halves : (bytes : List ℕ) → length (halves_of bytes) ≡ 2 * length bytes
length_halves [] = refl
length_halves (byte ∷ bytes) = let rest = length_halves bytes in omega (arith, rest)

-- a look-up of each value, within one block of 16
pub looked_up : (table values : List ℕ) (i : ℕ) → i + length values ≤ 16 → Each1 (λ v. v < 16) values
    → swz_l w8 16 table i values ≡ map (λ v. slice_index table v) values
looked_up table [] i room small = refl
looked_up table (v ∷ values) i room small =
    let least = small.0 in
    let kept : nat_le 128 v ≡ false = grind (arith, nat_tests) in
    let here : 16 * (i / 16) + v ≡ v = omega arith in
    rw (kept, here, looked_up table values (suc i) (omega arith) small.1) refl

pub digits_of_halves : (table bytes : List ℕ) → map (λ v. slice_index table v) (halves_of bytes) ≡ encode_with table bytes
unfolding encode_with
digits_of_halves table [] = refl
digits_of_halves table (byte ∷ bytes) = ap (λ l. slice_index table (byte / 16) ∷ slice_index table (byte % 16) ∷ l) (digits_of_halves table bytes)
