-- Lines that are cut at their commas alone.
use Rattle.std.specs.Prelude.{ℕ, ◌≡◌, ◌==◌, ◌&&◌, ◌||◌, ◌⊎◌, not, if◌then◌else◌, Bool, List, [], ◌∷◌, ◌++◌}
use Rattle.std.specs.List.{list_all}

-- a byte that means nothing but itself or a comma: no line feed, carriage return or quote, and none that begins a byte
-- order mark
abbrev pub is_plain_byte : ℕ → Bool
is_plain_byte b = not (b == 10) && not (b == 13) && not (b == 34) && not (b == 239)

abbrev pub is_plain : List ℕ → Bool
is_plain body = list_all is_plain_byte body

-- a byte that means something but itself
abbrev pub is_marked : ℕ → Bool
is_marked b = (b == 44) || not (is_plain_byte b)

-- a line by what stands before the line feed, or the carriage return and the line feed, that ends it
abbrev pub IsEndedLine : List ℕ → List ℕ → Type 0
IsEndedLine line body = (line ≡ body) ⊎ (line ≡ body ++ (10 ∷ [])) ⊎ (line ≡ body ++ (13 ∷ 10 ∷ []))

-- the fields between the commas; the first of them has begun
unfoldable pub cells : List ℕ → List ℕ → List (List ℕ)
cells begun [] = begun ∷ []
cells begun (b ∷ bs) = if b == 44 then begun ∷ cells [] bs else cells (begun ++ (b ∷ [])) bs

-- the record of a plain line, if it is not empty
abbrev pub plain_records : List ℕ → List (List (List ℕ))
plain_records [] = []
plain_records (b ∷ bs) = cells [] (b ∷ bs) ∷ []
