-- A block of the pad takes in a key, byte by byte.
use Rattle.std.proofs.Common.{◌≡◌, ◌≢◌, ℕ, ◌+◌, ◌-◌, ◌<◌, ◌≤◌, List, ◌++◌, length, replicate, get_or, set, length-append, refl, sym, ap, ◌∙◌, subst, inl, inr, arith}
use Rattle.std.specs.Prelude.{bit_xor}
use Rattle.std.specs.Int.Bits.{xor_zero_l}
use Rattle.std.proofs.lemmas.Bool.{cases_eq, cases_lt}
use Rattle.std.proofs.lemmas.Grind.{same_number_lists}
use Rattle.std.proofs.lemmas.Nat.{xor_comm}
use Rattle.std.proofs.lemmas.List.{get_or-replicate, length-replicate, get_or-set_same, get_or-set_other, length-set, get_or-map, length-map, get_or_append_left, get_or-append_right}
use Rattle.link_tags.specs.Hmac.{padded_key}

-- the first bytes of the key are in the block
pub record PaddedUpTo (pad i : ℕ) (key block : List ℕ) : Type 0 where
  pub long : length block ≡ 64
  pub taken : (k : ℕ) → k < i → get_or block k 0 ≡ bit_xor (get_or key k 0) pad
  pub left : (k : ℕ) → i ≤ k → k < 64 → get_or block k 0 ≡ pad

pub begun : (pad : ℕ) (key : List ℕ) → PaddedUpTo pad 0 key (replicate 64 pad)
begun pad key =
    record {
      long = length-replicate 64 pad;
      taken = λ k early. absurd (omega arith);
      left = λ k late within. get_or-replicate 64 k pad 0 within;
    }

pub one_more : (pad i : ℕ) (key block : List ℕ) → i < 64 → PaddedUpTo pad i key block
    → PaddedUpTo pad (i + 1) key (set block i (bit_xor (get_or block i 0) (get_or key i 0)))
one_more pad i key block within so_far = record { long = length-set block i put ∙ so_far.long; taken = taken; left = left }
  where
    put : ℕ
    put = bit_xor (get_or block i 0) (get_or key i 0)

    elsewhere : (k : ℕ) → k ≢ i → get_or (set block i put) k 0 ≡ get_or block k 0
    elsewhere k other = get_or-set_other block i k put 0 other

    here : get_or (set block i put) i 0 ≡ bit_xor (get_or key i 0) pad
    here =
        get_or-set_same block i put 0 (omega (arith, so_far.long))
        ∙ ap (λ b. bit_xor b (get_or key i 0)) (so_far.left i (omega arith) within)
        ∙ xor_comm pad (get_or key i 0)

    taken : (k : ℕ) → k < i + 1 → get_or (set block i put) k 0 ≡ bit_xor (get_or key k 0) pad
    taken k early =
        elim (cases_eq k i) [
          | inl e ↦ subst (λ n. get_or (set block i put) n 0 ≡ bit_xor (get_or key n 0) pad) (sym e) here
          | inr other ↦ elsewhere k other ∙ so_far.taken k (omega arith)
        ]

    left : (k : ℕ) → i + 1 ≤ k → k < 64 → get_or (set block i put) k 0 ≡ pad
    left k late early = elsewhere k (omega arith) ∙ so_far.left k (omega arith) early

pub whole : (pad i : ℕ) (key block : List ℕ) → length key ≤ i → i ≤ length key → length key ≤ 64 → PaddedUpTo pad i key block → block ≡ padded_key pad key
whole pad i key block all none_more short so_far = same_number_lists block (padded_key pad key) (so_far.long ∙ sym long) each
  where
    zeros : List ℕ
    zeros = replicate (64 - length key) 0

    filled : length (key ++ zeros) ≡ 64
    filled =
        let more : length zeros ≡ 64 - length key = length-replicate {A = ℕ} (64 - length key) 0 in
        omega (arith, length-append key zeros)

    long : length (padded_key pad key) ≡ 64
    long = length-map (key ++ zeros) (λ byte. bit_xor byte pad) ∙ filled

    changed : (k : ℕ) → k < 64 → get_or (padded_key pad key) k 0 ≡ bit_xor (get_or (key ++ zeros) k 0) pad
    changed k within = get_or-map (λ byte. bit_xor byte pad) (key ++ zeros) k 0 0 (omega (arith, filled))

    each : (k : ℕ) → k < length block → get_or block k 0 ≡ get_or (padded_key pad key) k 0
    each k within =
        let inside : k < 64 = omega (arith, so_far.long) in
        elim (cases_lt k (length key)) [
          | inl early ↦ so_far.taken k (omega arith) ∙ ap (λ b. bit_xor b pad) (sym (get_or_append_left key zeros 0 k early)) ∙ sym (changed k inside)
          | inr late ↦
              so_far.left k (omega arith) inside
              ∙ sym (xor_zero_l pad)
              ∙ ap (λ b. bit_xor b pad) (sym (get_or-append_right key zeros (length key) k 0 refl late ∙ get_or-replicate (64 - length key) (k - length key) 0 0 (omega arith)))
              ∙ sym (changed k inside)
        ]
