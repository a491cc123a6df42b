-- Bytes in the order of the numbers that they spell.
use Rattle.std.proofs.Common.{◌≡◌, ℕ, zero, suc, ◌+◌, ◌-◌, ◌*◌, ◌^◌, ◌<◌, ◌≤◌, List, [], ◌∷◌, length, refl, sym, ap, subst, ◌∙◌, arith}
use Rattle.std.specs.Prelude.{All, slice_index}
use Rattle.std.specs.declared.cmp.Ordering.{Ordering}
use Rattle.std.specs.declared.cmp.Ordering.TheVariants.{Less, Equal, Greater}
use Rattle.std.specs.Ordering.{MatchOrdering, ordering_then, nat_cmp}
use Rattle.std.specs.Cmp.{nat_cmp_is, ranks}
use Rattle.std.specs.Cmp.Lexicographic.{slice_cmp}
use Rattle.std.specs.Int.{w128, byte_worth, sum_through, from_be_bytes}
use Rattle.values.specs.declared.ids.ClientId.{ClientId}
use Rattle.record_rules.specs.Clients.{client_cmp, IsNumberOf}
use Rattle.std.proofs.Math.Nat.{mul-le-mul_right}

-- the number that the bytes spell, the first worth most
spelled : List ℕ → ℕ
spelled [] = 0
spelled (b ∷ bs) = b * 256 ^ length bs + spelled bs

first_apart : (f : ℕ → ℕ) (n : ℕ) → sum_through f (suc n) ≡ f 0 + sum_through (λ i. f (suc i)) n
first_apart f zero = refl
first_apart f (suc n) = let e = first_apart f n in omega arith

is_spelled : (b : ℕ) (bs : List ℕ) → sum_through (λ i. byte_worth (length bs - i) (slice_index (b ∷ bs) i)) (length bs) ≡ spelled (b ∷ bs)
unfolding spelled
is_spelled b [] = omega arith
is_spelled b (c ∷ bs) =
    first_apart (λ i. byte_worth (suc (length bs) - i) (slice_index (b ∷ c ∷ bs) i)) (length bs)
    ∙ (let later : sum_through (λ i. byte_worth (suc (length bs) - suc i) (slice_index (c ∷ bs) i)) (length bs) ≡ spelled (c ∷ bs) =
    (λ j. sum_through (λ i. byte_worth (fewer (length bs) i j) (slice_index (c ∷ bs) i)) (length bs)) ∙ is_spelled c bs in
    let worth : byte_worth (suc (length bs) - 0) b ≡ b * 256 ^ suc (length bs) = ap (λ n. byte_worth n b) (whole (suc (length bs))) in
    (λ j. worth j + later j))
  where
    fewer : (n i : ℕ) → suc n - suc i ≡ n - i
    fewer n i = omega arith

    whole : (n : ℕ) → n - 0 ≡ n
    whole n = omega arith

below_more : (b p v : ℕ) → b < 256 → v < p → b * p + v < 256 * p
below_more b p v h l = let m : suc b * p ≤ 256 * p = mul-le-mul_right p (omega arith) in omega arith

byte_tail : (b : ℕ) (bs : List ℕ) → All (λ n. n < 256) (b ∷ bs) → All (λ n. n < 256) bs
byte_tail b bs bytes k d h = bytes (suc k) d (omega arith)

byte_head : (b : ℕ) (bs : List ℕ) → All (λ n. n < 256) (b ∷ bs) → b < 256
byte_head b bs bytes = bytes 0 0 (omega arith)

spelled_below : (bs : List ℕ) → All (λ b. b < 256) bs → spelled bs < 256 ^ length bs
unfolding spelled
spelled_below [] bytes = omega arith
spelled_below (b ∷ bs) bytes =
    let more = below_more b (256 ^ length bs) (spelled bs) (byte_head b bs bytes) (spelled_below bs (byte_tail b bs bytes)) in
    let power : 256 ^ suc (length bs) ≡ 256 * 256 ^ length bs = omega arith in
    omega arith

below_by_first : (a b p v w : ℕ) → a < b → v < p → a * p + v < b * p + w
below_by_first a b p v w h l = let m : suc a * p ≤ b * p = mul-le-mul_right p h in omega arith

ordered : (us vs : List ℕ) → length us ≡ length vs → All (λ b. b < 256) us → All (λ b. b < 256) vs
    → MatchOrdering (slice_cmp nat_cmp us vs) (spelled us < spelled vs) (spelled us ≡ spelled vs) (spelled vs < spelled us)
unfolding spelled
ordered [] [] e fa fb = refl
ordered [] (b ∷ vs) e fa fb = absurd (omega arith)
ordered (a ∷ us) [] e fa fb = absurd (omega arith)
ordered (a ∷ us) (b ∷ vs) e fa fb =
    let long : length us ≡ length vs = omega arith in
    by_first (nat_cmp a b) (slice_cmp nat_cmp us vs) (ranks a b) long (spelled_below us (byte_tail a us fa)) (spelled_below vs (byte_tail b vs fb))
    (ordered us vs long (byte_tail a us fa) (byte_tail b vs fb))
  where
    by_first : (o later : Ordering) → MatchOrdering o (a < b) (a ≡ b) (b < a) → length us ≡ length vs → spelled us < 256 ^ length us → spelled vs < 256 ^ length vs
        → MatchOrdering later (spelled us < spelled vs) (spelled us ≡ spelled vs) (spelled vs < spelled us)
        → MatchOrdering (ordering_then o later) (a * 256 ^ length us + spelled us < b * 256 ^ length vs + spelled vs)
        (a * 256 ^ length us + spelled us ≡ b * 256 ^ length vs + spelled vs) (b * 256 ^ length vs + spelled vs < a * 256 ^ length us + spelled us)
    by_first Less later h long la lb rest =
        subst (λ n. a * 256 ^ length us + spelled us < b * 256 ^ n + spelled vs) long (below_by_first a b (256 ^ length us) (spelled us) (spelled vs) h la)
    by_first Greater later h long la lb rest =
        subst (λ n. b * 256 ^ length vs + spelled vs < a * 256 ^ n + spelled us) (sym long) (below_by_first b a (256 ^ length vs) (spelled vs) (spelled us) h lb)
    by_first Equal later h long la lb rest = by_rest later (λ i. h i * 256 ^ long i) rest
      where
        by_rest : (o : Ordering) → a * 256 ^ length us ≡ b * 256 ^ length vs
            → MatchOrdering o (spelled us < spelled vs) (spelled us ≡ spelled vs) (spelled vs < spelled us)
            → MatchOrdering o (a * 256 ^ length us + spelled us < b * 256 ^ length vs + spelled vs)
            (a * 256 ^ length us + spelled us ≡ b * 256 ^ length vs + spelled vs) (b * 256 ^ length vs + spelled vs < a * 256 ^ length us + spelled us)
        by_rest Less same r = omega arith
        by_rest Equal same r = omega arith
        by_rest Greater same r = omega arith

as_number : (b : ℕ) (vs : List ℕ) (n : ℕ) → length vs ≡ n → sum_through (λ i. byte_worth (n - i) (slice_index (b ∷ vs) i)) n ≡ spelled (b ∷ vs)
as_number b vs n e = subst (λ m. sum_through (λ i. byte_worth (m - i) (slice_index (b ∷ vs) i)) m ≡ spelled (b ∷ vs)) e (is_spelled b vs)

number_is : (vs : List ℕ) → length vs ≡ 16 → from_be_bytes w128 vs ≡ spelled vs
number_is [] e = absurd (omega arith)
number_is (b ∷ vs) e = as_number b vs 15 (omega arith)

-- clients are in the order of their numbers
pub client_cmp-numbers : (a b : ClientId) (m n : ℕ) → IsNumberOf a m → IsNumberOf b n → client_cmp a b ≡ nat_cmp m n
client_cmp-numbers a b m n is_a is_b =
    nat_cmp_is (spelled a.0) (spelled b.0) (client_cmp a b) (ordered a.0 b.0 (is_a.sixteen ∙ sym is_b.sixteen) is_a.bytes is_b.bytes)
    ∙ (λ i. nat_cmp (sym (is_a.spelled ∙ number_is a.0 is_a.sixteen) i) (sym (is_b.spelled ∙ number_is b.0 is_b.sixteen) i))
