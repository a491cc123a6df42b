-- How bytes are cut into lines, and lines into records.
use Rattle.std.specs.Borrow.{Bor}
use Rattle.std.specs.Prelude.{ℕ, ◌==◌, if◌then◌else◌, List, [], ◌∷◌, ◌++◌, map}
use Rattle.std.specs.List.{flat_map}
use Rattle.csv.specs.Reading.{default_config, records, strip_bom}

-- a record by its fields, and a field by its bytes
abbrev pub Record : Type 0
Record = List (List ℕ)

-- the record of fields that are lent
abbrev pub record_of : List (Bor (List ℕ)) → Record
record_of fields = map (λ field. field.now) fields

-- the whole lines of bytes, each with its line feed; the first of them has begun already
unfoldable pub whole_lines : List ℕ → List ℕ → List (List ℕ)
whole_lines begun [] = []
whole_lines begun (b ∷ bs) = if b == 10 then (begun ++ (b ∷ [])) ∷ whole_lines [] bs else whole_lines (begun ++ (b ∷ [])) bs

-- what follows the last line feed
unfoldable pub last_part : List ℕ → List ℕ → List ℕ
last_part begun [] = begun
last_part begun (b ∷ bs) = if b == 10 then last_part [] bs else last_part (begun ++ (b ∷ [])) bs

-- what follows the last line feed is a line where it is not empty
abbrev pub line_if_any : List ℕ → List (List ℕ)
line_if_any [] = []
line_if_any (b ∷ bs) = (b ∷ bs) ∷ []

-- the lines of bytes
abbrev pub lines_of : List ℕ → List (List ℕ)
lines_of bytes = whole_lines [] bytes ++ line_if_any (last_part [] bytes)

-- the records that a fresh reader reads of a line, with a comma, no header and flexible lengths
unfoldable pub line_records : List ℕ → List Record
line_records line = records default_config (strip_bom line)

-- the records of the whole lines of bytes after a line that has begun
abbrev pub records_after : List ℕ → List ℕ → List Record
records_after begun bytes = flat_map line_records (whole_lines begun bytes)

-- the records that stand whole in bytes
abbrev pub whole_records : List ℕ → List Record
whole_records bytes = records_after [] bytes

-- the records of what follows the last line feed, which is a line where it is not empty
abbrev pub last_records : List ℕ → List Record
last_records [] = []
last_records (b ∷ bs) = line_records (b ∷ bs)

-- the records of bytes
abbrev pub records_of : List ℕ → List Record
records_of bytes = whole_records bytes ++ last_records (last_part [] bytes)
