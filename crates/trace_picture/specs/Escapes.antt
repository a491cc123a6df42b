-- What stands for bytes in the text of a picture.
use Rattle.std.specs.Prelude.{ℕ, ◌==◌, ◌||◌, ◌&&◌, not, nat_le, if◌then◌else◌, Bool, List, [], ◌∷◌, codes, flat_map}

-- a byte that is printed as it is
abbrev pub is_printed : ℕ → Bool
is_printed b = (b == 10) || (nat_le 32 b && nat_le b 126)

abbrev pub entity : ℕ → List ℕ
entity b =
    if b == 60 then codes "&lt;"
    else if b == 62 then codes "&gt;"
    else if b == 38 then codes "&amp;"
    else if b == 34 then codes "&quot;"
    else if is_printed b then b ∷ [] else codes "?"

abbrev pub escaped : List ℕ → List ℕ
escaped text = flat_map entity text

-- a byte that neither begins nor ends an element or an attribute
abbrev pub is_inert : ℕ → Bool
is_inert b = not ((b == 60) || ((b == 62) || (b == 34)))
