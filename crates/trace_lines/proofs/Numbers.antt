-- Numbers are read as they were printed, and were printed as they are read.
use Rattle.std.proofs.Common.{◌≡◌, ℕ, ◌+◌, ◌-◌, ◌*◌, ◌^◌, ◌<◌, ◌≤◌, ◌==◌, ◌&&◌, not, Bool, true, false, cond, Some, Ok, List, [], ◌∷◌, length, get_or, refl, sym, ap, ◌∙◌, arith}
use Rattle.std.specs.Prelude.{IsTrue, decimal, nat_le, fold}
use Rattle.std.specs.Char.{is_ascii_digit, is_ascii_uppercase}
use Rattle.std.specs.List.{list_all}
use Rattle.std.specs.Result.{result_ok}
use Rattle.std.proofs.lemmas.Bool.{and_from, and_parts, le-leb, leb-true, lt-leb}
use Rattle.std.proofs.lemmas.Fmt.{decimal-digits_value}
use Rattle.std.proofs.lemmas.Str.Parse.{FoldsDigits, IsDigitsTest, IsNumeralModel, numerals_by_fold}
use Rattle.values.specs.declared.event.Cause.TheVariants.{Number, Range}
use Rattle.schedule_model.specs.Reading.{fault, is_number, value_of_digits, number_of, max_u64}
use Rattle.schedule_model.proofs.Reading.{number_of-decimal}
use Rattle.trace_lines.specs.Fields.{number_in, is_lower}
use Rattle.trace_lines.proofs.Steps.{ok_of}

abbrev Digits : List ℕ → Type 0
Digits text = IsTrue (list_all is_ascii_digit text)

tells : IsDigitsTest Digits
tells = record {
  empty = refl;
  parts = λ c cs e. let k = and_parts (is_ascii_digit c) (list_all is_ascii_digit cs) e in let m = and_parts (nat_le 48 c) (nat_le c 57) k.0 in ((leb-true 48 c m.0, leb-true c 57 m.1), k.1);
  more = λ c cs k e. and_from (is_ascii_digit c) (list_all is_ascii_digit cs) (and_from (nat_le 48 c) (nat_le c 57) (le-leb 48 c k.0) (le-leb c 57 k.1)) e;
}

abbrev value_after : ℕ → List ℕ → ℕ
value_after n text = fold (λ n d. 10 * n + (d - 48)) n text

folds : FoldsDigits value_after
folds = record { empty = λ n. refl; more = λ n c cs r. ap (λ m. value_after m cs) (omega arith) }

own : IsNumeralModel Digits value_of_digits
own = numerals_by_fold Digits tells value_after folds

-- ---- what is a number
number_digits : (text : List ℕ) → IsTrue (is_number text) → Digits text × (0 < length text) × (get_or text 0 0 ≡ 48 → length text ≡ 1)
number_digits [] is = cc is
number_digits (d ∷ []) is = (and_from (is_ascii_digit d) true is refl, omega arith, λ z. refl)
number_digits (d ∷ e ∷ ds) is =
    let p = and_parts (not (d == 48)) (list_all is_ascii_digit (d ∷ e ∷ ds)) is in
    (p.1, omega arith, λ z. absurd (let x : not (d == 48) ≡ false = ap (λ n. not (n == 48)) z in let y : true ≡ false = sym p.0 ∙ x in cc))

-- ---- reading
pub record IsNumber (text : List ℕ) (low high n : ℕ) : Type 0 where
  pub number : IsTrue (is_number text)
  pub value : value_of_digits text ≡ n
  pub from : low ≤ n
  pub to : n ≤ high

number_told : (text : List ℕ) (k low high n : ℕ) → number_of text k low high ≡ Ok n → IsNumber text low high n
number_told text k low high n is = by_number (is_number text) refl is
  where
    by_range : IsTrue (is_number text) → (b : Bool) → (nat_le low (value_of_digits text) && nat_le (value_of_digits text) high) ≡ b → cond b (Ok (value_of_digits text)) (fault {T = ℕ} Range k) ≡ Ok n → IsNumber text low high n
    by_range number true holds is =
        let p = and_parts (nat_le low (value_of_digits text)) (nat_le (value_of_digits text) high) holds in
        let same : value_of_digits text ≡ n = cc in
        record { number = number; value = same; from = omega (arith, leb-true low (value_of_digits text) p.0, same); to = omega (arith, leb-true (value_of_digits text) high p.1, same) }
    by_range number false holds is = absurd (let e : fault {T = ℕ} Range k ≡ Ok n = is in cc)

    by_number : (b : Bool) → is_number text ≡ b → cond (not b) (fault {T = ℕ} Number k) (cond (nat_le low (value_of_digits text) && nat_le (value_of_digits text) high) (Ok (value_of_digits text)) (fault {T = ℕ} Range k)) ≡ Ok n → IsNumber text low high n
    by_number true number is = by_range number (nat_le low (value_of_digits text) && nat_le (value_of_digits text) high) refl is
    by_number false number is = absurd (let e : fault {T = ℕ} Number k ≡ Ok n = is in cc)

-- a byte that is a digit is no capital
digit_low : (c : ℕ) → IsTrue (is_ascii_digit c) → IsTrue (not (is_ascii_uppercase c))
digit_low c h =
    let m = and_parts (nat_le 48 c) (nat_le c 57) h in
    ap (λ (b : Bool). not (b && nat_le c 90)) (lt-leb 65 c (omega (arith, leb-true c 57 m.1)))

digits_low : (text : List ℕ) → Digits text → IsTrue (is_lower text)
digits_low [] h = refl
digits_low (c ∷ cs) h =
    let p = and_parts (is_ascii_digit c) (list_all is_ascii_digit cs) h in
    and_from (not (is_ascii_uppercase c)) (is_lower cs) (digit_low c p.0) (digits_low cs p.1)

pub record IsPrinted (text : List ℕ) (low high n : ℕ) : Type 0 where
  pub same : text ≡ decimal n
  pub lower : IsTrue (is_lower text)
  pub from : low ≤ n
  pub to : n ≤ high

-- what was read is printed so
pub number_printed : (text : List ℕ) (k low high n : ℕ) → high ≤ max_u64 → number_of text k low high ≡ Ok n → IsPrinted text low high n
number_printed text k low high n top is =
    let t = number_told text k low high n is in
    let d = number_digits text t.number in
    let small : value_of_digits text < 2 ^ 64 = omega (arith, t.value, t.to, top) in
    record {
      same = sym (decimal-digits_value own text d.0 d.1 d.2 small) ∙ ap decimal t.value;
      lower = digits_low text d.0;
      from = t.from;
      to = t.to;
    }

pub number_found : (text : List ℕ) (low high n : ℕ) → high ≤ max_u64 → number_in low high text ≡ Some n → IsPrinted text low high n
number_found text low high n top is = number_printed text 0 low high n top (ok_of (number_of text 0 low high) n is)

pub number_only : (n low high : ℕ) → low ≤ n → n ≤ high → high ≤ max_u64 → number_in low high (decimal n) ≡ Some n
number_only n low high from to top = ap result_ok (number_of-decimal n 0 low high from to top)
