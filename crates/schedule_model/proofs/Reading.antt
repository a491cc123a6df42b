-- A number is read as it was printed; what is read as a number is in its range, and what is read as bytes was hexadecimal.
use Rattle.std.proofs.Common.{◌≡◌, ℕ, ◌+◌, ◌-◌, ◌*◌, ◌/◌, ◌%◌, ◌<◌, ◌≤◌, ◌==◌, ◌&&◌, zero, suc, not, Bool, true, false, cond, Result, Ok, Err, List, [], ◌∷◌, ◌++◌, length, refl, ap, ◌∙◌, arith}
use Rattle.std.specs.Prelude.{IsTrue, decimal, nat_le}
use Rattle.std.specs.Char.{is_ascii_digit}
use Rattle.std.specs.List.{list_all}
use Rattle.std.proofs.lemmas.Bool.{cond-true, cond-false, and_from, and_parts, le-leb, leb-true, ne_eqb, not_from_true, not_from_false}
use Rattle.std.proofs.lemmas.Fmt.{decimal_by_steps}
use Rattle.std.proofs.lemmas.Grind.{fold-append}
use Rattle.std.proofs.lemmas.List.Folds.{list_all-append}
use Rattle.hex.specs.declared.error.FromHexError.{FromHexError}
use Rattle.values.specs.declared.event.Cause.TheVariants.{Number, Range, Hex}
use Rattle.schedule_model.specs.Reading.{fault, is_number, value_of_digits, number_of, bytes_or_fault, max_u64}

-- digits that stand for a number; the first is no 0 where the number is not
abbrev StartsFine : List ℕ → Type 0
StartsFine [] = ⊥
StartsFine (d ∷ ds) = (d == 48) ≡ false

record Stands (n : ℕ) (ds : List ℕ) : Type 0 where
  digits : IsTrue (list_all is_ascii_digit ds)
  value : value_of_digits ds ≡ n
  number : IsTrue (is_number ds)
  starts : 0 < n → StartsFine ds

digit_fine : (n : ℕ) → n < 10 → IsTrue (is_ascii_digit (48 + n))
digit_fine n lt = and_from (nat_le 48 (48 + n)) (nat_le (48 + n) 57) (le-leb 48 (48 + n) (omega arith)) (le-leb (48 + n) 57 (omega (arith, lt)))

one_digit : (n : ℕ) → n < 10 → Stands n ((48 + n) ∷ [])
one_digit n lt = record {
  digits = and_from (is_ascii_digit (48 + n)) true (digit_fine n lt) refl;
  value = omega arith;
  number = digit_fine n lt;
  starts = λ some. ne_eqb (48 + n) 48 (λ is. absurd (omega (arith, is, some)));
}

more_value : (n : ℕ) (ds : List ℕ) → value_of_digits ds ≡ n / 10 → value_of_digits (ds ++ (48 + n % 10) ∷ []) ≡ n
more_value n ds is = fold-append (λ n d. 10 * n + (d - 48)) 0 ds ((48 + n % 10) ∷ []) ∙ omega (arith, is)

two_number : (d e : ℕ) (ds : List ℕ) → (d == 48) ≡ false → IsTrue (list_all is_ascii_digit (d ∷ e ∷ ds)) → IsTrue (is_number (d ∷ e ∷ ds))
two_number d e ds fine all = and_from (not (d == 48)) (list_all is_ascii_digit (d ∷ e ∷ ds)) (not_from_false (d == 48) fine) all

more_digits : (n : ℕ) (ds : List ℕ) → 10 ≤ n → Stands (n / 10) ds → Stands n (ds ++ ((48 + n % 10) ∷ []))
more_digits n [] le h = absurd (h.starts (omega (arith, le)))
more_digits n (d ∷ ds) le h =
    let x : ℕ = 48 + n % 10 in
    let all : IsTrue (list_all is_ascii_digit ((d ∷ ds) ++ x ∷ [])) = list_all-append is_ascii_digit (d ∷ ds) (x ∷ []) ∙ and_from (list_all is_ascii_digit (d ∷ ds)) (list_all is_ascii_digit (x ∷ [])) h.digits (and_from (is_ascii_digit x) true (digit_fine (n % 10) (omega arith)) refl) in
    let fine : (d == 48) ≡ false = h.starts (omega (arith, le)) in
    record { digits = all; value = more_value n (d ∷ ds) h.value; number = by_rest ds fine all; starts = λ some. fine }
  where
    by_rest : (ds : List ℕ) → (d == 48) ≡ false → IsTrue (list_all is_ascii_digit (d ∷ (ds ++ (48 + n % 10) ∷ []))) → IsTrue (is_number (d ∷ (ds ++ (48 + n % 10) ∷ [])))
    by_rest [] fine all = two_number d (48 + n % 10) [] fine all
    by_rest (e ∷ ds) fine all = two_number d e (ds ++ (48 + n % 10) ∷ []) fine all

decimal_stands : (n : ℕ) → n ≤ max_u64 → Stands n (decimal n)
decimal_stands n le = decimal_by_steps Stands one_digit more_digits n (omega (arith, le))

-- a number in its range is read as it was printed
pub number_of-decimal : (n k low high : ℕ) → low ≤ n → n ≤ high → high ≤ max_u64 → number_of (decimal n) k low high ≡ Ok n
number_of-decimal n k low high from to top =
    let s = decimal_stands n (omega (arith, to, top)) in
    cond-false (not (is_number (decimal n))) _ _ (not_from_true (is_number (decimal n)) s.number)
    ∙ cond-true (nat_le low (value_of_digits (decimal n)) && nat_le (value_of_digits (decimal n)) high) (Ok (value_of_digits (decimal n))) _
    (and_from (nat_le low (value_of_digits (decimal n))) (nat_le (value_of_digits (decimal n)) high) (le-leb low (value_of_digits (decimal n)) (omega (arith, from, s.value))) (le-leb (value_of_digits (decimal n)) high (omega (arith, to, s.value))))
    ∙ ap Ok s.value

-- and what was read is in its range
pub number_of-range : (text : List ℕ) (k low high n : ℕ) → number_of text k low high ≡ Ok n → (low ≤ n) × (n ≤ high)
number_of-range text k low high n is = by_number (is_number text) is
  where
    by_range : (b : Bool) → (nat_le low (value_of_digits text) && nat_le (value_of_digits text) high) ≡ b → cond b (Ok (value_of_digits text)) (fault {T = ℕ} Range k) ≡ Ok n → (low ≤ n) × (n ≤ high)
    by_range true holds is =
        let p = and_parts (nat_le low (value_of_digits text)) (nat_le (value_of_digits text) high) holds in
        let same : value_of_digits text ≡ n = cc in
        (omega (arith, leb-true low (value_of_digits text) p.0, same), omega (arith, leb-true (value_of_digits text) high p.1, same))
    by_range false holds is = absurd (let e : fault {T = ℕ} Range k ≡ Ok n = is in cc)

    by_number : (b : Bool) → cond (not b) (fault {T = ℕ} Number k) (cond (nat_le low (value_of_digits text) && nat_le (value_of_digits text) high) (Ok (value_of_digits text)) (fault {T = ℕ} Range k)) ≡ Ok n → (low ≤ n) × (n ≤ high)
    by_number true is = by_range (nat_le low (value_of_digits text) && nat_le (value_of_digits text) high) refl is
    by_number false is = absurd (let e : fault {T = ℕ} Number k ≡ Ok n = is in cc)

-- ---- bytes
pub bytes_or_fault-ok : (k : ℕ) (r : Result (List ℕ) FromHexError) (bytes : List ℕ) → bytes_or_fault k r ≡ Ok bytes → r ≡ Ok bytes
bytes_or_fault-ok k (Ok b) bytes is = let same : b ≡ bytes = cc in ap Ok same
bytes_or_fault-ok k (Err f) bytes is = absurd (let z : fault {T = List ℕ} Hex k ≡ Ok bytes = is in cc)
