-- Lines and records of bytes in two parts.
use Rattle.std.proofs.Common.{refl, sym, ap, ◌∙◌, ◌≡◌, ◌≢◌, ℕ, List, [], ◌∷◌, ◌++◌, take, drop, ◌==◌, append-nil, inl, inr, take-append-drop}
use Rattle.std.proofs.lemmas.Bool.{cases_Bool}
use Rattle.std.proofs.lemmas.Grind.{flat_map-append}
use Rattle.std.specs.List.{flat_map}
use Rattle.record_cutting.specs.Lines.{whole_lines, last_part, last_records, line_records, records_after}

-- the lines of two parts: those of the first, and those that the second ends
pub whole_lines-append : (p xs ys : List ℕ) → whole_lines p (xs ++ ys) ≡ whole_lines p xs ++ whole_lines (last_part p xs) ys
unfolding whole_lines last_part
whole_lines-append p [] ys = refl
whole_lines-append p (b ∷ xs) ys = elim (cases_Bool (b == 10)) [
  | inl y ↦ rw y (ap (λ (l : List (List ℕ)). (p ++ (b ∷ [])) ∷ l) (whole_lines-append [] xs ys))
  | inr n ↦ rw n (whole_lines-append (p ++ (b ∷ [])) xs ys)
]

pub last_part-append : (p xs ys : List ℕ) → last_part p (xs ++ ys) ≡ last_part (last_part p xs) ys
unfolding last_part
last_part-append p [] ys = refl
last_part-append p (b ∷ xs) ys = elim (cases_Bool (b == 10)) [
  | inl y ↦ rw y (last_part-append [] xs ys)
  | inr n ↦ rw n (last_part-append (p ++ (b ∷ [])) xs ys)
]

-- the same of their records
pub records_after-append : (p xs ys : List ℕ) → records_after p (xs ++ ys) ≡ records_after p xs ++ records_after (last_part p xs) ys
records_after-append p xs ys = ap (flat_map line_records) (whole_lines-append p xs ys) ∙ flat_map-append line_records (whole_lines p xs) (whole_lines (last_part p xs) ys)

-- ---- one byte: a line feed ends the line, and another byte goes onto it

pub records_after-none : (p : List ℕ) → records_after p [] ≡ []
unfolding whole_lines
records_after-none p = refl

pub last_part-none : (p : List ℕ) → last_part p [] ≡ p
unfolding last_part
last_part-none p = refl

pub records_after-feed : (p : List ℕ) → records_after p (10 ∷ []) ≡ line_records (p ++ (10 ∷ []))
unfolding whole_lines
records_after-feed p = append-nil (line_records (p ++ (10 ∷ [])))

pub last_part-feed : (p : List ℕ) → last_part p (10 ∷ []) ≡ []
unfolding last_part
last_part-feed p = refl

-- the records of the last line, where there is one
pub last_records-some : (p : List ℕ) → p ≢ [] → last_records p ≡ line_records p
last_records-some [] ne = absurd (ne refl)
last_records-some (b ∷ bs) ne = refl

-- ---- bytes before a place and from it on

pub records_after-split : (p piece : List ℕ) (i : ℕ) → records_after p piece ≡ records_after p (take i piece) ++ records_after (last_part p (take i piece)) (drop i piece)
records_after-split p piece i = ap (records_after p) (sym (take-append-drop i piece)) ∙ records_after-append p (take i piece) (drop i piece)
