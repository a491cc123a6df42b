-- Request bytes, of which there may be so many.
use Rattle.std.proofs.Common.{arith, refl, sym, ◌≡◌, ◌/◌, ◌%◌, ◌≤◌, ◌<◌, ℕ, Bool, true, false, List, length, Result, Ok, Err}
use Rattle.std.specs.Prelude.{IsErr, is_ok, nat_lt}
use Rattle.std.specs.List.{list_all}
use Rattle.std.proofs.lemmas.Bool.{le-leb, lt-leb}
use Rattle.hex.specs.Hex.{decode_of}
use Rattle.hex.specs.declared.error.FromHexError.{FromHexError}
use Rattle.hex.proofs.HexLemmas.{decode_of-ok}
use Rattle.values.specs.declared.event.Cause.TheVariants.{Hex, Range}
use Rattle.values.specs.declared.limits.TheConstants.{MAX_REQUEST}
use Rattle.record_cutting.specs.Lines.{Record}
use Rattle.schedule_model.specs.Reading.{bytes_or_fault, fault, field, request_at}
use Rattle.schedule_text.specs.Values.{digit_or_16}
use Rattle.schedule_text.proofs.Hexadecimals.{are_hexadecimal, are_not_hexadecimal}

-- whether a text of an even length is hexadecimal
pub tells : (text : List ℕ) (b : Bool) → length text % 2 ≡ 0 → b ≡ list_all (λ byte. nat_lt (digit_or_16 byte) 16) text → b ≡ is_ok (decode_of text)
tells text true even is = sym (are_hexadecimal text even (sym is))
tells text false even is = go (decode_of text) (are_not_hexadecimal text even (sym is))
  where
    go : (r : Result (List ℕ) FromHexError) → IsErr r → false ≡ is_ok r
    go (Err e) h = refl
    go (Ok bytes) h = cc h

-- a text that is short enough
pub short_request : (fields : Record) (k : ℕ) → length (field fields k) / 2 ≤ MAX_REQUEST → request_at fields k ≡ bytes_or_fault k (decode_of (field fields k))
short_request fields k short = go (decode_of (field fields k)) refl
  where
    go : (r : Result (List ℕ) FromHexError) → decode_of (field fields k) ≡ r → request_at fields k ≡ bytes_or_fault k (decode_of (field fields k))
    go (Err e) is = rw is refl
    go (Ok bytes) is =
        let (even, digits, twice, byte) = decode_of-ok (field fields k) bytes is in
        rw (is, le-leb (length bytes) MAX_REQUEST (omega (arith, twice, short))) refl

-- one that is too long, and is hexadecimal or not
pub long_request : (fields : Record) (k : ℕ) → MAX_REQUEST < length (field fields k) / 2 → is_ok (decode_of (field fields k)) ≡ true → request_at fields k ≡ fault Range k
long_request fields k long some = go (decode_of (field fields k)) refl some
  where
    go : (r : Result (List ℕ) FromHexError) → decode_of (field fields k) ≡ r → is_ok r ≡ true → request_at fields k ≡ fault Range k
    go (Err e) is some = cc some
    go (Ok bytes) is some =
        let (even, digits, twice, byte) = decode_of-ok (field fields k) bytes is in
        rw (is, lt-leb (length bytes) MAX_REQUEST (omega (arith, twice, long))) refl

pub no_request : (fields : Record) (k : ℕ) → is_ok (decode_of (field fields k)) ≡ false → request_at fields k ≡ fault Hex k
no_request fields k none = go (decode_of (field fields k)) refl none
  where
    go : (r : Result (List ℕ) FromHexError) → decode_of (field fields k) ≡ r → is_ok r ≡ false → request_at fields k ≡ fault Hex k
    go (Err e) is none = rw is refl
    go (Ok bytes) is none = cc none
