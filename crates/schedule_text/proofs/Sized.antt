-- A text that is so many bytes, or none.
use Rattle.std.proofs.Common.{arith, refl, ◌∙◌, ◌≡◌, ◌≢◌, ◌*◌, ℕ, List, length, Result, Ok, Err, inl, inr}
use Rattle.std.specs.Prelude.{IsErr}
use Rattle.std.proofs.lemmas.Bool.Decides.{eqb_tells}
use Rattle.hex.specs.Hex.{decode_of, decode_pairs}
use Rattle.hex.specs.declared.error.FromHexError.{FromHexError}
use Rattle.hex.proofs.HexLemmas.{decode_of-even, decode_of-ok}
use Rattle.values.specs.declared.event.Cause.TheVariants.{Hex}
use Rattle.schedule_model.specs.Reading.{fault}
use Rattle.schedule_text.specs.Read.{sized_from}

-- of another size
pub another_size : (text : List ℕ) (k n : ℕ) → length text ≢ 2 * n → sized_from text k n ≡ fault Hex k
another_size text k n other = go (decode_of text) refl
  where
    go : (r : Result (List ℕ) FromHexError) → decode_of text ≡ r → sized_from text k n ≡ fault Hex k
    go (Err x) is = rw is refl
    go (Ok bytes) is = elim (eqb_tells (length bytes) n) [
      | inl y ↦
          let (even, digits, twice, byte) = decode_of-ok text bytes is in
          absurd (other (omega (arith, twice, y.1)))
      | inr n ↦ rw (is, n.0) refl
    ]

-- with a byte that is no digit
pub another_digit : (text : List ℕ) (k n : ℕ) → length text ≡ 2 * n → IsErr (decode_pairs 0 text) → sized_from text k n ≡ fault Hex k
another_digit text k n size bad = go (decode_pairs 0 text) refl bad
  where
    go : (r : Result (List ℕ) FromHexError) → decode_pairs 0 text ≡ r → IsErr r → sized_from text k n ≡ fault Hex k
    go (Err x) is bad = rw (decode_of-even text (omega (arith, size)), is) refl
    go (Ok bytes) is bad = cc bad

pub of_this_size : (text : List ℕ) (k n : ℕ) (bytes : List ℕ) → length text ≡ 2 * n → decode_pairs 0 text ≡ Ok bytes → sized_from text k n ≡ Ok bytes
of_this_size text k n bytes size some =
    let is : decode_of text ≡ Ok bytes = decode_of-even text (omega (arith, size)) ∙ some in
    let (even, digits, twice, byte) = decode_of-ok text bytes is in
    elim (eqb_tells (length bytes) n) [
      | inl y ↦ rw (is, y.0) refl
      | inr n ↦ absurd (n.1 (omega (arith, twice, size)))
    ]
