-- The values of hexadecimal digits.
use Rattle.std.specs.Prelude.{ℕ, ◌≡◌, ◌+◌, ◌*◌, ◌/◌, ◌%◌, Bool, nat_lt, List, [], ◌∷◌, map, min, unwrap_or}
use Rattle.std.specs.List.{list_all}
use Rattle.hex.specs.Hex.{hex_digit_value}

-- the value of a digit, in either case, and 16 for any other byte
abbrev pub digit_or_16 : ℕ → ℕ
digit_or_16 c = unwrap_or (hex_digit_value c) 16

-- the values of digits, where a byte that is no digit may have any value from 16 on
abbrev pub ValuesOf : List ℕ → List ℕ → Type 0
ValuesOf digits values = map (λ v. min v 16) values ≡ map digit_or_16 digits

-- whether all are values of digits
abbrev pub all_small : List ℕ → Bool
all_small values = list_all (λ v. nat_lt v 16) values

-- the byte of each pair of values
abbrev pub bytes_of : List ℕ → List ℕ
bytes_of [] = []
bytes_of (high ∷ []) = []
bytes_of (high ∷ low ∷ rest) = ((16 * high + low) % 256) ∷ bytes_of rest

-- the high and the low four bits of each byte
abbrev pub halves_of : List ℕ → List ℕ
halves_of [] = []
halves_of (byte ∷ rest) = (byte / 16) ∷ (byte % 16) ∷ halves_of rest
