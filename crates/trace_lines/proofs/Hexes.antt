-- Lower-case hexadecimal is read as it was printed, and was printed as it is read.
use Rattle.std.proofs.Common.{◌≡◌, ℕ, ◌+◌, ◌-◌, ◌*◌, ◌/◌, ◌%◌, ◌<◌, ◌≤◌, ◌==◌, ◌&&◌, zero, suc, not, cond, Bool, true, false, Option, Some, None, Result, Ok, Err, List, [], ◌∷◌, length, slice_index, refl, sym, ap, ◌∙◌, arith}
use Rattle.std.specs.Prelude.{IsTrue, if◌then◌else◌, is_ok, nat_le, nat_lt}
use Rattle.std.specs.Char.{is_ascii_uppercase}
use Rattle.std.specs.List.{list_all}
use Rattle.std.specs.Result.{result_ok, result_unwrap_or}
use Rattle.std.proofs.lemmas.Bool.{cond-true, cond-false, and_from, and_parts, eqb-true, eq-eqb, le-leb, le-ltb, leb-true, lt-ltb}
use Rattle.std.proofs.lemmas.Option.{none-some, same_Some}
use Rattle.hex.specs.Hex.{decode_of, decode_pairs, encode_with, hex_digit_value, lower_digits, pair_value, value_at, digit_or_error, ◌>>=◌}
use Rattle.hex.specs.declared.error.FromHexError.{FromHexError}
use Rattle.hex.proofs.HexLemmas.{decode_of-encode_lower, decode_of-even, decode_of-ok}
use Rattle.schedule_model.specs.Lines.{hex}
use Rattle.schedule_model.specs.Reading.{bytes_or_fault}
use Rattle.schedule_model.proofs.Reading.{bytes_or_fault-ok}
use Rattle.trace_model.specs.TraceLines.{is_byte, is_bytes}
use Rattle.trace_model.proofs.Bytes.{get_byte, all_bytes}
use Rattle.trace_lines.specs.Fields.{is_lower, is_hex, is_sized, hex_in}
use Rattle.trace_lines.proofs.Steps.{chosen, ok_of}

-- ---- bytes
pub hex_again : (bytes : List ℕ) → IsTrue (list_all is_byte bytes) → decode_of (hex bytes) ≡ Ok bytes
hex_again bytes h = decode_of-encode_lower bytes (get_byte bytes h)

-- ---- digits
glyph : (v : ℕ) → v < 16 → slice_index lower_digits v ≡ (if nat_lt v 10 then 48 + v else 87 + v)
glyph zero h = refl
glyph (suc zero) h = refl
glyph (suc (suc zero)) h = refl
glyph (suc (suc (suc zero))) h = refl
glyph (suc (suc (suc (suc zero)))) h = refl
glyph (suc (suc (suc (suc (suc zero))))) h = refl
glyph (suc (suc (suc (suc (suc (suc zero)))))) h = refl
glyph (suc (suc (suc (suc (suc (suc (suc zero))))))) h = refl
glyph (suc (suc (suc (suc (suc (suc (suc (suc zero)))))))) h = refl
glyph (suc (suc (suc (suc (suc (suc (suc (suc (suc zero))))))))) h = refl
glyph (suc (suc (suc (suc (suc (suc (suc (suc (suc (suc zero)))))))))) h = refl
glyph (suc (suc (suc (suc (suc (suc (suc (suc (suc (suc (suc zero))))))))))) h = refl
glyph (suc (suc (suc (suc (suc (suc (suc (suc (suc (suc (suc (suc zero)))))))))))) h = refl
glyph (suc (suc (suc (suc (suc (suc (suc (suc (suc (suc (suc (suc (suc zero))))))))))))) h = refl
glyph (suc (suc (suc (suc (suc (suc (suc (suc (suc (suc (suc (suc (suc (suc zero)))))))))))))) h = refl
glyph (suc (suc (suc (suc (suc (suc (suc (suc (suc (suc (suc (suc (suc (suc (suc zero))))))))))))))) h = refl
glyph (suc (suc (suc (suc (suc (suc (suc (suc (suc (suc (suc (suc (suc (suc (suc (suc k)))))))))))))))) h = absurd (omega (arith, h))

-- no digit that is printed is a capital
glyph_low : (v : ℕ) → IsTrue (not (is_ascii_uppercase (slice_index lower_digits v)))
glyph_low zero = refl
glyph_low (suc zero) = refl
glyph_low (suc (suc zero)) = refl
glyph_low (suc (suc (suc zero))) = refl
glyph_low (suc (suc (suc (suc zero)))) = refl
glyph_low (suc (suc (suc (suc (suc zero))))) = refl
glyph_low (suc (suc (suc (suc (suc (suc zero)))))) = refl
glyph_low (suc (suc (suc (suc (suc (suc (suc zero))))))) = refl
glyph_low (suc (suc (suc (suc (suc (suc (suc (suc zero)))))))) = refl
glyph_low (suc (suc (suc (suc (suc (suc (suc (suc (suc zero))))))))) = refl
glyph_low (suc (suc (suc (suc (suc (suc (suc (suc (suc (suc zero)))))))))) = refl
glyph_low (suc (suc (suc (suc (suc (suc (suc (suc (suc (suc (suc zero))))))))))) = refl
glyph_low (suc (suc (suc (suc (suc (suc (suc (suc (suc (suc (suc (suc zero)))))))))))) = refl
glyph_low (suc (suc (suc (suc (suc (suc (suc (suc (suc (suc (suc (suc (suc zero))))))))))))) = refl
glyph_low (suc (suc (suc (suc (suc (suc (suc (suc (suc (suc (suc (suc (suc (suc zero)))))))))))))) = refl
glyph_low (suc (suc (suc (suc (suc (suc (suc (suc (suc (suc (suc (suc (suc (suc (suc zero))))))))))))))) = refl
glyph_low (suc (suc (suc (suc (suc (suc (suc (suc (suc (suc (suc (suc (suc (suc (suc (suc k)))))))))))))))) = refl

value_small : (c v : ℕ) → hex_digit_value c ≡ Some v → v < 16
value_small c v h = grind (arith)

letter : (v : ℕ) → 10 ≤ v → v < 16 → slice_index lower_digits v ≡ 87 + v
letter v low high = glyph v high ∙ cond-false (nat_lt v 10) (48 + v) (87 + v) (le-ltb v 10 low)

figure : (v : ℕ) → v < 10 → slice_index lower_digits v ≡ 48 + v
figure v low = glyph v (omega (arith, low)) ∙ cond-true (nat_lt v 10) (48 + v) (87 + v) (lt-ltb v 10 low)

-- a digit that is no capital is the one that its value is printed as
digit_is : (c v : ℕ) → hex_digit_value c ≡ Some v → IsTrue (not (is_ascii_uppercase c)) → slice_index lower_digits v ≡ c
digit_is c v is low = by_capital (nat_le 65 c && nat_le c 70) refl is
  where
    as_figure : (b : Bool) → (nat_le 48 c && nat_le c 57) ≡ b → cond b (Some (c - 48)) None ≡ Some v → slice_index lower_digits v ≡ c
    as_figure true t is =
        let p = and_parts (nat_le 48 c) (nat_le c 57) t in
        let e = same_Some (c - 48) v is in
        let from = leb-true 48 c p.0 in
        let to = leb-true c 57 p.1 in
        figure v (omega (arith, e, from, to)) ∙ omega (arith, e, from)
    as_figure false t is = absurd (none-some v is)

    as_letter : (b : Bool) → (nat_le 97 c && nat_le c 102) ≡ b → cond b (Some (c - 87)) (if nat_le 48 c && nat_le c 57 then Some (c - 48) else None) ≡ Some v → slice_index lower_digits v ≡ c
    as_letter true t is =
        let p = and_parts (nat_le 97 c) (nat_le c 102) t in
        let e = same_Some (c - 87) v is in
        let from = leb-true 97 c p.0 in
        let to = leb-true c 102 p.1 in
        letter v (omega (arith, e, from)) (omega (arith, e, from, to)) ∙ omega (arith, e, from)
    as_letter false t is = as_figure (nat_le 48 c && nat_le c 57) refl is

    by_capital : (b : Bool) → (nat_le 65 c && nat_le c 70) ≡ b
        → cond b (Some (c - 55)) (if nat_le 97 c && nat_le c 102 then Some (c - 87) else if nat_le 48 c && nat_le c 57 then Some (c - 48) else None) ≡ Some v
        → slice_index lower_digits v ≡ c
    by_capital true t is =
        let p = and_parts (nat_le 65 c) (nat_le c 70) t in
        let upper : is_ascii_uppercase c ≡ true = and_from (nat_le 65 c) (nat_le c 90) p.0 (le-leb c 90 (omega (arith, leb-true c 70 p.1))) in
        absurd (let e : not true ≡ true = sym (ap not upper) ∙ low in cc e)
    by_capital false t is = as_letter (nat_le 97 c && nat_le c 102) refl is

pub hex_low : (bytes : List ℕ) → IsTrue (is_lower (hex bytes))
unfolding encode_with
hex_low [] = refl
hex_low (b ∷ bytes) =
    and_from (not (is_ascii_uppercase (slice_index lower_digits (b / 16)))) _ (glyph_low (b / 16))
    (and_from (not (is_ascii_uppercase (slice_index lower_digits (b % 16)))) (is_lower (hex bytes)) (glyph_low (b % 16)) (hex_low bytes))

-- ---- texts
record Step {A B : Type 0} (r : Result A FromHexError) (f : A → Result B FromHexError) (y : B) : Type 0 where
  value : A
  first : r ≡ Ok value
  rest : f value ≡ Ok y

step : {A B : Type 0} (r : Result A FromHexError) (f : A → Result B FromHexError) (y : B) → (r >>= f) ≡ Ok y → Step r f y
step (Ok x) f y is = record { value = x; first = refl; rest = is }
step (Err e) f y is = cc is

digit_read : (c i : ℕ) (o : Option ℕ) (v : ℕ) → digit_or_error c i o ≡ Ok v → o ≡ Some v
digit_read c i (Some w) v h = ap Some (ap (λ (r : Result ℕ FromHexError). result_unwrap_or r 0) h)
digit_read c i None v h = cc h

pairs_printed : (i : ℕ) (text bytes : List ℕ) → decode_pairs i text ≡ Ok bytes → IsTrue (is_lower text) → hex bytes ≡ text
unfolding decode_pairs encode_with
pairs_printed i [] bytes is low =
    let e : [] ≡ bytes = ap (λ (r : Result (List ℕ) FromHexError). result_unwrap_or r []) is in
    sym (ap hex e)
pairs_printed i (a ∷ []) bytes is low = cc is
pairs_printed i (a ∷ b ∷ rest) bytes is low =
    let p0 = step (pair_value a b i) _ bytes is in
    let p1 = step (value_at a i) _ p0.value p0.first in
    let p2 = step (value_at b (i + 1)) _ p0.value p1.rest in
    let p3 = step (decode_pairs (i + 2) rest) _ bytes p0.rest in
    let e : p0.value ∷ p3.value ≡ bytes = ap (λ (r : Result (List ℕ) FromHexError). result_unwrap_or r []) p3.rest in
    let byte : p1.value * 16 + p2.value ≡ p0.value = ap (λ (r : Result ℕ FromHexError). result_unwrap_or r 0) p2.rest in
    let va = digit_read a i (hex_digit_value a) p1.value p1.first in
    let vb = digit_read b (i + 1) (hex_digit_value b) p2.value p2.first in
    let la = and_parts (not (is_ascii_uppercase a)) (is_lower (b ∷ rest)) low in
    let lb = and_parts (not (is_ascii_uppercase b)) (is_lower rest) la.1 in
    let small = value_small b p2.value vb in
    let high : p0.value / 16 ≡ p1.value = omega (arith, byte, small) in
    let end : p0.value % 16 ≡ p2.value = omega (arith, byte, small) in
    let da : slice_index lower_digits (p0.value / 16) ≡ a = ap (slice_index lower_digits) high ∙ digit_is a p1.value va la.0 in
    let db : slice_index lower_digits (p0.value % 16) ≡ b = ap (slice_index lower_digits) end ∙ digit_is b p2.value vb lb.0 in
    sym (ap hex e)
    ∙ ap (λ (x : ℕ). x ∷ slice_index lower_digits (p0.value % 16) ∷ hex p3.value) da
    ∙ ap (λ (x : ℕ). a ∷ x ∷ hex p3.value) db
    ∙ ap (λ (l : List ℕ). a ∷ b ∷ l) (pairs_printed (i + 2) rest p3.value p3.first lb.1)

pub record IsHexOf (text bytes : List ℕ) : Type 0 where
  pub same : text ≡ hex bytes
  pub are_bytes : IsTrue (list_all is_byte bytes)
  pub twice : length text ≡ 2 * length bytes

pub hex_printed : (text bytes : List ℕ) → decode_of text ≡ Ok bytes → IsTrue (is_lower text) → IsHexOf text bytes
hex_printed text bytes is low =
    let d = decode_of-ok text bytes is in
    record { same = sym (pairs_printed 0 text bytes (sym (decode_of-even text d.0) ∙ is) low); are_bytes = all_bytes bytes d.3; twice = d.2 }

pub hex_found : (text bytes : List ℕ) → hex_in text ≡ Some bytes → IsHexOf text bytes
hex_found text bytes is =
    let c = chosen (is_lower text) (result_ok (bytes_or_fault 0 (decode_of text))) bytes is in
    hex_printed text bytes (bytes_or_fault-ok 0 (decode_of text) bytes (ok_of (bytes_or_fault 0 (decode_of text)) bytes c.1)) c.0

pub hex_only : (bytes : List ℕ) → IsTrue (list_all is_byte bytes) → hex_in (hex bytes) ≡ Some bytes
hex_only bytes h =
    cond-true (is_lower (hex bytes)) (result_ok (bytes_or_fault 0 (decode_of (hex bytes)))) None (hex_low bytes)
    ∙ ap (λ r. result_ok (bytes_or_fault 0 r)) (hex_again bytes h)

-- as a test
ok_is : (r : Result (List ℕ) FromHexError) → IsTrue (is_ok r) → (bytes : List ℕ) × (r ≡ Ok bytes)
ok_is (Ok bytes) h = (bytes, refl)
ok_is (Err e) h = cc h

pub is_hex_found : (text : List ℕ) → IsTrue (is_hex text) → (bytes : List ℕ) × IsHexOf text bytes
is_hex_found text h =
    let p = and_parts (is_lower text) (is_ok (decode_of text)) h in
    let d = ok_is (decode_of text) p.1 in
    (d.0, hex_printed text d.0 d.1 p.0)

pub is_hex_only : (bytes : List ℕ) → IsTrue (list_all is_byte bytes) → IsTrue (is_hex (hex bytes))
is_hex_only bytes h = and_from (is_lower (hex bytes)) (is_ok (decode_of (hex bytes))) (hex_low bytes) (ap is_ok (hex_again bytes h))

pub is_sized_found : (n : ℕ) (text : List ℕ) → IsTrue (is_sized n text) → (bytes : List ℕ) × (text ≡ hex bytes) × IsTrue (is_bytes n bytes)
is_sized_found n text h =
    let p = and_parts (length text == 2 * n) (is_hex text) h in
    let x = is_hex_found text p.1 in
    let size : length x.0 ≡ n = omega (arith, x.1.twice, eqb-true (length text) (2 * n) p.0) in
    (x.0, x.1.same, and_from (length x.0 == n) (list_all is_byte x.0) (eq-eqb (length x.0) n size) x.1.are_bytes)

pub hex_twice : (bytes : List ℕ) → length (hex bytes) ≡ 2 * length bytes
unfolding encode_with
hex_twice [] = refl
hex_twice (b ∷ bytes) = omega (arith, hex_twice bytes)

pub is_sized_only : (n : ℕ) (bytes : List ℕ) → IsTrue (is_bytes n bytes) → IsTrue (is_sized n (hex bytes))
is_sized_only n bytes h =
    let p = and_parts (length bytes == n) (list_all is_byte bytes) h in
    and_from (length (hex bytes) == 2 * n) (is_hex (hex bytes)) (eq-eqb (length (hex bytes)) (2 * n) (omega (arith, hex_twice bytes, eqb-true (length bytes) n p.0))) (is_hex_only bytes p.1)
