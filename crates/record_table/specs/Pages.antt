-- Lists of slots in pages.
use Rattle.std.specs.Prelude.{ℕ, suc, ◌+◌, ◌<◌, ◌≤◌, List, [], ◌∷◌, ◌++◌, length, take, drop, slice_index_or}
use Rattle.std.specs.List.{concat}
use Rattle.record_table.specs.declared.pages.TheConstants.{PAGE, HALF}
use Rattle.record_table.specs.declared.pages.Spot.{Spot}

-- a page has some slots, and no more than one may have
abbrev pub IsPage : List ℕ → Type 0
IsPage page = (0 < length page) × (length page ≤ PAGE)

-- the page of a number; behind the last one there is nothing
abbrev pub page_at : List (List ℕ) → ℕ → List ℕ
page_at pages n = slice_index_or pages n []

-- the place of a spot in the whole list
abbrev pub place_of : List (List ℕ) → Spot → ℕ
place_of pages spot = length (concat (take spot.page pages)) + spot.offset

-- the spot is in a page or at its end, or behind the last page
pub record IsSpot (pages : List (List ℕ)) (spot : Spot) : Type 0 where
  pub page_within : spot.page ≤ length pages
  pub offset_within : spot.offset ≤ length (page_at pages spot.page)

-- the spot is in a page, or at its end, and the page may take one slot more
pub record HasRoom (pages : List (List ℕ)) (spot : Spot) : Type 0 where
  pub page_within : spot.page < length pages
  pub offset_within : spot.offset ≤ length (page_at pages spot.page)
  pub room : length (page_at pages spot.page) < PAGE

-- the pages with two in the place of a full one
abbrev pub halved : List (List ℕ) → ℕ → List (List ℕ)
halved pages n = take n pages ++ take HALF (page_at pages n) ∷ drop HALF (page_at pages n) ∷ drop (suc n) pages
