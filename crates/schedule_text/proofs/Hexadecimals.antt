-- Digits that are read whatever they are.
use Rattle.std.proofs.Common.{arith, refl, sym, ap, subst, ◌∙◌, ◌≡◌, ◌≢◌, ◌+◌, ◌-◌, ◌*◌, ◌%◌, ◌<◌, ◌≤◌, inl, inr, ℕ, zero, suc, add-one, Bool, true, false, ◌&&◌, List, [], ◌∷◌, length, min, take, drop, get_or, slice_index, slice_set, Option, Some, None, unwrap_or, Result, Ok, Err, get_or-set_same, get_or-set_other}
use Rattle.std.specs.Prelude.{IsOk, IsErr, nat_lt, is_some}
use Rattle.std.specs.List.{list_all}
use Rattle.std.specs.Simd.Lanes.{chunk, put_chunk}
use Rattle.std.proofs.lemmas.List.Sums.{AllPass-from_list_all, list_all-from_AllPass}
use Rattle.std.proofs.lemmas.Bool.{and_parts, cases_lt, lt-ltb, ltb-true}
use Rattle.std.proofs.lemmas.Bool.Decides.{nat_tests}
use Rattle.std.proofs.lemmas.List.{get_or-map, get_or_default, length-map, set-get_or}
use Rattle.std.proofs.lemmas.Simd.{get_or-chunk, get_or-put_chunk_at, length-chunk}
use Rattle.hex.specs.Hex.{decode_of, decode_pairs, digit_or_error, hex_digit_value, is_hex_digit, pair_value, ◌>>=◌}
use Rattle.hex.specs.declared.error.FromHexError.{FromHexError}
use Rattle.hex.proofs.HexLemmas.{decode_of-digits, decode_of-even, decode_pairs-ok}
use Rattle.hex.proofs.Pairs.{decode_done, decode_start, decode_step, prepend}
use Rattle.schedule_text.specs.Decoded.{AreRead, Decodes, IsKept, IsRead}
use Rattle.schedule_text.specs.Values.{ValuesOf, all_small, bytes_of, digit_or_16}

-- ---- a text whose bytes are all read

two_digits : (a b k : ℕ) (x y : Option ℕ) → unwrap_or x 16 < 16 → unwrap_or y 16 < 16
    → (digit_or_error a k x >>= (λ high. digit_or_error b (k + 1) y >>= (λ low. Ok (high * 16 + low)))) ≡ Ok (16 * unwrap_or x 16 + unwrap_or y 16)
two_digits a b k (Some v) (Some w) high low = let e : v * 16 + w ≡ 16 * v + w = omega arith in ap Ok e
two_digits a b k (Some v) None high low = absurd (omega arith)
two_digits a b k None y high low = absurd (omega arith)

-- the bytes before i, and those of the rest
abbrev ReadTo : (text out : List ℕ) → ℕ → Type 0
ReadTo text out i = decode_pairs 0 text ≡ prepend (take i out) (decode_pairs (2 * i) (drop (2 * i) text))

read_to : (text out : List ℕ) (i : ℕ) → length text ≡ 2 * length out → i ≤ length out → AreRead text out 0 i → ReadTo text out i
read_to text out zero size within read = decode_start text out
read_to text out (suc i) size within read =
    let a = slice_index text (2 * i) in
    let b = slice_index text (2 * i + 1) in
    let this = read i (omega arith) (omega arith) in
    let pair : pair_value a b (2 * i) ≡ Ok (slice_index out i) =
    two_digits a b (2 * i) (hex_digit_value a) (hex_digit_value b) this.high this.low ∙ ap Ok (sym this.byte) in
    let before = read_to text out i size (omega arith) (λ k least lt. read k least (omega arith)) in
    let same : slice_set out i (slice_index out i) ≡ out = set-get_or out i 0 in
    rw (same, add-one) at (decode_step text out i (slice_index out i) (omega arith) (omega arith) pair before)

-- ---- a text with a byte that is no digit

small_digit : (c : ℕ) → is_hex_digit c ≡ true → digit_or_16 c < 16
small_digit c is = grind arith

pub digits_of_ok : (text bytes : List ℕ) → decode_pairs 0 text ≡ Ok bytes → (k : ℕ) → k < length text → digit_or_16 (slice_index text k) < 16
digits_of_ok text bytes is k within = small_digit (slice_index text k) ((decode_pairs-ok 0 text bytes is).0 k 0 within)

pub err_unless : {A : Type 0} (r : Result A FromHexError) → ((x : A) → r ≡ Ok x → ⊥) → IsErr r
err_unless (Ok x) never = absurd (never x refl)
err_unless (Err e) never = refl

pub no_digit : (text : List ℕ) (k : ℕ) → k < length text → 16 ≤ digit_or_16 (slice_index text k) → IsErr (decode_pairs 0 text)
no_digit text k within large = err_unless (decode_pairs 0 text) (λ bytes is. let small = digits_of_ok text bytes is k within in omega (arith, small, large))

-- a text is hexadecimal where all its bytes are digits
some_small : (x : Option ℕ) → unwrap_or x 16 < 16 → is_some x ≡ true
some_small (Some v) small = refl
some_small None small = absurd (omega (arith, small))

pub are_hexadecimal : (text : List ℕ) → length text % 2 ≡ 0 → list_all (λ c. nat_lt (digit_or_16 c) 16) text ≡ true → IsOk (decode_of text)
are_hexadecimal text even all =
    let digits = λ (k d : ℕ) (within : k < length text). some_small (hex_digit_value (get_or text k d)) (ltb-true _ _ (AllPass-from_list_all (λ c. nat_lt (digit_or_16 c) 16) text all k d within)) in
    read (decode_of text) (decode_of-digits text even digits).0 (decode_of-digits text even digits).1
  where
    read : (r : Result (List ℕ) FromHexError) (bytes : List ℕ) → r ≡ Ok bytes → IsOk r
    read (Ok x) bytes is = refl
    read (Err e) bytes is = absurd cc

pub are_not_hexadecimal : (text : List ℕ) → length text % 2 ≡ 0 → list_all (λ c. nat_lt (digit_or_16 c) 16) text ≡ false → IsErr (decode_of text)
are_not_hexadecimal text even other =
    err_unless (decode_of text) (λ bytes is.
    let digits = (decode_pairs-ok 0 text bytes (sym (decode_of-even text even) ∙ is)).0 in
    cc (sym other ∙ list_all-from_AllPass (λ c. nat_lt (digit_or_16 c) 16) text (λ k d within. lt-ltb _ _ (small_digit (get_or text k d) (digits k d within)))))

-- what is said at the end
pub decoded : (whole : Bool) (text out : List ℕ) → length text ≡ 2 * length out → (whole ≡ true → AreRead text out 0 (length out))
    → (whole ≡ false → IsErr (decode_pairs 0 text)) → Decodes whole out (decode_pairs 0 text)
decoded true text out size read broken =
    decode_done text out (length out) (omega arith) (omega arith) (read_to text out (length out) size (omega arith) (read refl))
decoded false text out size read broken = broken refl

pub either_broken : {P : Type 0} (a b : Bool) → (a ≡ false → P) → (b ≡ false → P) → a && b ≡ false → P
either_broken true b first second e = second e
either_broken false b first second e = first refl

-- ---- one byte more

pub next_read : (whole : Bool) (text out : List ℕ) (i h l : ℕ) → i < length out
    → h ≡ digit_or_16 (slice_index text (2 * i)) → l ≡ digit_or_16 (slice_index text (2 * i + 1))
    → (whole ≡ true → AreRead text out 0 i)
    → (whole && nat_lt h 16) && nat_lt l 16 ≡ true → AreRead text (slice_set out i (h % 16 * 16 + l % 16)) 0 (i + 1)
next_read whole text out i h l within eh el so_far now k least lt =
    let (before, low) = and_parts (whole && nat_lt h 16) (nat_lt l 16) now in
    let (was, high) = and_parts whole (nat_lt h 16) before in
    let byte = h % 16 * 16 + l % 16 in
    elim (cases_lt k i) [
      | inl early ↦
          let r = so_far was k least early in
          let other : k ≢ i = omega arith in
          record { high = r.high; low = r.low; byte = get_or-set_other out i k byte 0 other ∙ r.byte }
      | inr late ↦
          let here : i ≡ k = omega arith in
          let small : h < 16 = ltb-true h 16 high in
          let small' : l < 16 = ltb-true l 16 low in
          subst (λ n. IsRead text (slice_set out i byte) n) here (record {
            high = omega (arith, eh, small);
            low = omega (arith, el, small');
            byte = get_or-set_same out i byte 0 within ∙ omega (arith, eh, el, small, small');
          })
    ]

pub next_broken : (whole : Bool) (text : List ℕ) (i h l : ℕ) → 2 * i + 1 < length text
    → h ≡ digit_or_16 (slice_index text (2 * i)) → l ≡ digit_or_16 (slice_index text (2 * i + 1))
    → (whole ≡ false → IsErr (decode_pairs 0 text))
    → (whole && nat_lt h 16) && nat_lt l 16 ≡ false → IsErr (decode_pairs 0 text)
next_broken false text i h l within eh el broken now = broken refl
next_broken true text i h l within eh el broken now =
    elim (cases_lt h 16) [
      | inl small ↦ no_digit text (2 * i + 1) within (let large : 16 ≤ l = grind (arith, nat_tests) in omega (arith, large, el))
      | inr large ↦ no_digit text (2 * i) (omega arith) (omega (arith, large, eh))
    ]

-- ---- a block

-- bytes from `from` on that are read after those up to `mid`
pub read_on : (text old new : List ℕ) (mid from end : ℕ) → from ≤ mid → AreRead text old 0 mid → IsKept old new from → AreRead text new from end → AreRead text new 0 end
read_on text old new mid from end overlap before kept after i least lt =
    elim (cases_lt i from) [
      | inl early ↦
          let r = before i least (omega arith) in
          record { high = r.high; low = r.low; byte = kept i early ∙ r.byte }
      | inr late ↦ after i late lt
    ]

small_at : (values : List ℕ) (k : ℕ) → all_small values ≡ true → k < length values → slice_index values k < 16
small_at values k small within = ltb-true _ _ (AllPass-from_list_all (λ v. nat_lt v 16) values small k 0 within)

bytes_of_at : (values : List ℕ) (j : ℕ) → 2 * j + 1 < length values → slice_index (bytes_of values) j ≡ (16 * slice_index values (2 * j) + slice_index values (2 * j + 1)) % 256
bytes_of_at [] j within = absurd (omega arith)
bytes_of_at (high ∷ []) j within = absurd (omega arith)
bytes_of_at (high ∷ low ∷ values) zero within = refl
bytes_of_at (high ∷ low ∷ values) (suc j) within =
    let all = high ∷ low ∷ values in
    let two : 2 * suc j ≡ suc (suc (2 * j)) = omega arith in
    let three : 2 * suc j + 1 ≡ suc (suc (2 * j + 1)) = omega arith in
    bytes_of_at values j (omega arith)
    ∙ sym (ap (λ k. (16 * slice_index all k + slice_index all (2 * suc j + 1)) % 256) two ∙ ap (λ k. (16 * slice_index values (2 * j) + slice_index all k) % 256) three)

-- the values of digits, one by one
value_at : (digits values : List ℕ) (k : ℕ) → ValuesOf digits values → k < length digits → min (slice_index values k) 16 ≡ digit_or_16 (slice_index digits k)
value_at digits values k are within =
    let size : length values ≡ length digits = sym (length-map values (λ v. min v 16)) ∙ ap length are ∙ length-map digits digit_or_16 in
    sym (get_or-map (λ v. min v 16) values k 0 0 (omega (arith, size)))
    ∙ ap (λ l. slice_index l k) are ∙ get_or-map digit_or_16 digits k 0 0 within

pub length_bytes_of : (values : List ℕ) (n : ℕ) → length values ≡ 2 * n → length (bytes_of values) ≡ n
length_bytes_of [] n size = omega (arith, size)
length_bytes_of (high ∷ []) n size = absurd (omega arith)
length_bytes_of (high ∷ low ∷ values) zero size = absurd (omega arith)
length_bytes_of (high ∷ low ∷ values) (suc n) size = ap suc (length_bytes_of values n (omega arith))

-- the values of a block of the text, from byte `at` on
module _ (text out values : List ℕ) (at : ℕ) (size : length text ≡ 2 * length out) (room : at + 8 ≤ length out)
    (are : ValuesOf (chunk (2 * at) 16 text) values) where
  pub block_long : length values ≡ 16
  block_long = sym (length-map values (λ v. min v 16)) ∙ ap length are ∙ length-map (chunk (2 * at) 16 text) digit_or_16
      ∙ length-chunk (2 * at) 16 text (omega arith)

  value_in : (k i : ℕ) → k < 16 → 2 * at + k ≡ i → min (slice_index values k) 16 ≡ digit_or_16 (slice_index text i)
  value_in k i within is =
      value_at (chunk (2 * at) 16 text) values k are (omega (arith, length-chunk (2 * at) 16 text (omega arith)))
      ∙ ap digit_or_16 (get_or-chunk (2 * at) 16 text k 0 within) ∙ ap (λ n. digit_or_16 (slice_index text n)) is

  read_at : all_small values ≡ true → (j i : ℕ) → j < 8 → at + j ≡ i → IsRead text (put_chunk at out (bytes_of values)) i
  read_at small j i within is =
      let high = value_in (2 * j) (2 * i) (omega arith) (omega arith) in
      let low = value_in (2 * j + 1) (2 * i + 1) (omega arith) (omega arith) in
      let h = small_at values (2 * j) small (omega (arith, block_long)) in
      let l = small_at values (2 * j + 1) small (omega (arith, block_long)) in
      let bytes = length_bytes_of values 8 block_long in
      let put = get_or-put_chunk_at at out (bytes_of values) j 0 (omega (arith, bytes)) (omega (arith, bytes)) in
      let byte = bytes_of_at values j (omega (arith, block_long)) in
      record {
        high = omega (arith, high, h);
        low = omega (arith, low, l);
        byte = ap (λ n. slice_index (put_chunk at out (bytes_of values)) n) (sym is) ∙ put ∙ byte ∙ omega (arith, high, low, h, l);
      }

  pub block_read : all_small values ≡ true → AreRead text (put_chunk at out (bytes_of values)) at (at + 8)
  block_read small i least lt = read_at small (i - at) i (omega arith) (omega arith)

  -- where the text is hexadecimal, the values are small
  all_from_ok : (bytes : List ℕ) → decode_pairs 0 text ≡ Ok bytes → all_small values ≡ true
  all_from_ok bytes is =
      list_all-from_AllPass (λ v. nat_lt v 16) values (λ k d within.
      let value = value_in k (2 * at + k) (omega (arith, block_long)) refl in
      let digit = digits_of_ok text bytes is (2 * at + k) (omega (arith, block_long)) in
      lt-ltb (get_or values k d) 16 (omega (arith, value, digit, get_or_default values k d 0 within)))

  pub block_broken : all_small values ≡ false → IsErr (decode_pairs 0 text)
  block_broken large = err_unless (decode_pairs 0 text) (λ bytes is. cc (sym (all_from_ok bytes is) ∙ large))
