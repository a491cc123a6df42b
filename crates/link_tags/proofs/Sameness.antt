-- Bits that differ are gathered, byte by byte.
use Rattle.std.proofs.Common.{◌≡◌, ℕ, ◌+◌, ◌<◌, ◌≤◌, List, length, get_or, take, sym, ap, ◌∙◌, arith}
use Rattle.std.specs.Prelude.{◌==◌, bit_or, bit_xor, bytes_eq}
use Rattle.std.proofs.lemmas.Bool.{eqb-true, eq-eqb}
use Rattle.std.proofs.lemmas.Bool.Decides.{same_from_decides}
use Rattle.std.proofs.lemmas.Slice.Eq.{bytes_eq-Decides}
use Rattle.std.specs.Int.Bits.{xor_self, xor_zero_l, xor_zero_r, xor_assoc}
use Rattle.std.proofs.lemmas.Nat.{le_or_l, le_or_r}
use Rattle.std.proofs.lemmas.List.{take-take, take_all, take_more_same, get_or-take}

-- no bit differs in the first bytes exactly where these are the same
pub record SameUpTo (difference i : ℕ) (left right : List ℕ) : Type 0 where
  pub same : difference ≡ 0 → take i left ≡ take i right
  pub none : take i left ≡ take i right → difference ≡ 0

no_bits : (x y : ℕ) → bit_xor x y ≡ 0 → x ≡ y
no_bits x y e = sym (xor_zero_r x) ∙ ap (bit_xor x) (sym (xor_self y)) ∙ sym (xor_assoc x y y) ∙ ap (λ b. bit_xor b y) e ∙ xor_zero_l y

pub one_more : (difference i : ℕ) (left right : List ℕ) → i < length left → i < length right → SameUpTo difference i left right
    → SameUpTo (bit_or difference (bit_xor (get_or left i 0) (get_or right i 0))) (i + 1) left right
one_more difference i left right in_left in_right so_far = record { same = same; none = none }
  where
    bits : ℕ
    bits = bit_xor (get_or left i 0) (get_or right i 0)

    same : bit_or difference bits ≡ 0 → take (i + 1) left ≡ take (i + 1) right
    same e =
        let before : difference ≡ 0 = omega (arith, le_or_l difference bits) in
        let here : bits ≡ 0 = omega (arith, le_or_r difference bits) in
        take_more_same left right i 0 in_left in_right (so_far.same before) (no_bits (get_or left i 0) (get_or right i 0) here)

    none : take (i + 1) left ≡ take (i + 1) right → bit_or difference bits ≡ 0
    none e =
        let shorter : take i left ≡ take i right =
        sym (take-take i (i + 1) left (omega arith)) ∙ ap (take i) e ∙ take-take i (i + 1) right (omega arith) in
        let here : get_or left i 0 ≡ get_or right i 0 =
        sym (get_or-take (i + 1) left i 0 (omega arith)) ∙ ap (λ bytes. get_or bytes i 0) e ∙ get_or-take (i + 1) right i 0 (omega arith) in
        ap (λ d. bit_or d bits) (so_far.none shorter)
        ∙ ap (λ b. bit_or 0 (bit_xor b (get_or right i 0))) here
        ∙ ap (bit_or 0) (xor_self (get_or right i 0))

-- after the last byte the bits tell whether all bytes are the same
pub decided : (difference i : ℕ) (left right : List ℕ) → length left ≤ i → length right ≤ i → SameUpTo difference i left right → (difference == 0) ≡ bytes_eq left right
decided difference i left right all_left all_right so_far =
    let whole_left = take_all i left all_left in
    let whole_right = take_all i right all_right in
    same_from_decides (difference == 0) (bytes_eq left right)
    (λ t. sym whole_left ∙ so_far.same (eqb-true difference 0 t) ∙ whole_right, λ e. eq-eqb difference 0 (so_far.none (whole_left ∙ e ∙ sym whole_right)))
    (bytes_eq-Decides left right)
