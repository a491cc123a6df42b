-- Bytes as hexadecimal, block by block.
use Rattle.std.proofs.Common.{arith, refl, sym, ap, ◌∙◌, ◌≡◌, ℕ, zero, suc, ◌+◌, ◌*◌, ◌/◌, ◌%◌, ◌<◌, List, [], ◌∷◌, ◌++◌, length, take, drop, get_or, slice_index, append_assoc}
use Rattle.std.specs.Simd.{first_chunks}
use Rattle.std.proofs.lemmas.List.{drop-drop, take-append-drop, take-append-le, take_all}
use Rattle.hex.specs.Hex.{encode_lower, encode_with, lower_digits}
use Rattle.hex.proofs.HexLemmas.{length-encode_with}

pub digits_append : (xs ys : List ℕ) → encode_lower (xs ++ ys) ≡ encode_lower xs ++ encode_lower ys
unfolding encode_with
digits_append [] ys = refl
digits_append (x ∷ xs) ys =
    ap (λ (l : List ℕ). slice_index lower_digits (x / 16) ∷ slice_index lower_digits (x % 16) ∷ l) (digits_append xs ys)

chunk_at : (n count : ℕ) (xs : List ℕ) (i : ℕ) → i < count → get_or (first_chunks n count xs) i [] ≡ take n (drop (n * i) xs)
chunk_at n zero xs i within = absurd (omega arith)
chunk_at n (suc count) xs zero within = let none : n * 0 ≡ 0 = omega arith in rw none refl
chunk_at n (suc count) xs (suc i) within =
    let more : n * suc i ≡ n + n * i = omega arith in
    chunk_at n count (drop n xs) i (omega arith) ∙ rw more (ap (λ (l : List ℕ). take n l) (drop-drop (n * i) n xs))

-- one block more is written
pub next_block : (line bytes block first : List ℕ) (n count i : ℕ) → i < count → block ≡ get_or (first_chunks n count bytes) i []
    → line ++ encode_lower (drop (n * i) bytes) ≡ first → (line ++ encode_lower block) ++ encode_lower (drop (n * (i + 1)) bytes) ≡ first
next_block line bytes block first n count i within is so_far =
    let rest = drop (n * i) bytes in
    let more : n * i + n ≡ n * (i + 1) = omega arith in
    let after : drop n rest ≡ drop (n * (i + 1)) bytes = drop-drop n (n * i) bytes ∙ ap (λ k. drop k bytes) more in
    let parts : encode_lower rest ≡ encode_lower block ++ encode_lower (drop (n * (i + 1)) bytes) =
    ap encode_lower (sym (take-append-drop n rest)) ∙ digits_append (take n rest) (drop n rest)
    ∙ rw (is ∙ chunk_at n count bytes i within, after) refl in
    append_assoc line (encode_lower block) (encode_lower (drop (n * (i + 1)) bytes)) ∙ rw parts at so_far

-- the digits of the first bytes alone
pub cut : (bytes zeros : List ℕ) → take (2 * length bytes) (encode_lower (bytes ++ zeros)) ≡ encode_lower bytes
cut bytes zeros =
    let size = length-encode_with lower_digits bytes in
    ap (λ (l : List ℕ). take (2 * length bytes) l) (digits_append bytes zeros)
    ∙ take-append-le (2 * length bytes) (encode_lower bytes) (encode_lower zeros) (omega (arith, size))
    ∙ take_all (2 * length bytes) (encode_lower bytes) (omega (arith, size))
