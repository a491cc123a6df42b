-- The parts of a table that were taken, as values.
use Rattle.std.specs.Prelude.{ℕ, ◌+◌, ◌<◌, ◌≤◌, Bool, ◌==◌, cond, List, [], ◌++◌, fold, Option, Some, None, All}
use Rattle.values.specs.declared.entry.Point.{Point}
use Rattle.values.specs.declared.row.Row.{Row}
use Rattle.values.specs.declared.peer.TablePart.{TablePart}
use Rattle.values.specs.declared.limits.TheConstants.{MOST_ROWS}
use Rattle.record_rules.specs.Table.{RecordTable, empty_table, row_added}
use Rattle.record_rules.specs.Valid.{IsValidRow}
use Rattle.replica_model.specs.Path.{first_hash, same_point}
use Rattle.table_transfer.specs.declared.taking.TakePart.{TakePart}
use Rattle.table_transfer.specs.declared.taking.TakePart.TheVariants.{Taken, Whole, Other}

-- parts of the table at a point, from number 0 on: the number that comes next, the limit that number 0 told, and the
-- rows of them all
pub record TakenParts : Type 0 where
  pub point : Point
  pub next : ℕ
  pub limit : ℕ
  pub rows : List Row

-- the ranges of a part that are needed to take it
pub record IsTakable (part : TablePart) : Type 0 where
  pub limit_least : 1 ≤ part.limit
  pub limit_most : part.limit ≤ MOST_ROWS
  pub below : part.part < part.parts
  pub rows : All IsValidRow part.rows

-- the point whose parts are expected; where none was taken it is index 0 with the first hash
abbrev pub expected_point : Option TakenParts → Point
expected_point None = record { index = 0; hash = first_hash }
expected_point (Some p) = p.point

-- the number of the part that is expected
abbrev pub expected_next : Option TakenParts → ℕ
expected_next None = 0
expected_next (Some p) = p.next

-- the part has the expected point and number, or it is number 0 of another point
abbrev pub is_expected : Option TakenParts → TablePart → Bool
is_expected p part = cond (same_point part.point (expected_point p)) (part.part == expected_next p) (part.part == 0)

-- no part yet of the table that this part is of
abbrev pub begun_by : TablePart → TakenParts
begun_by part = record { point = part.point; next = 0; limit = part.limit; rows = [] }

-- what the part goes on with: number 0 begins anew
abbrev pub before_part : Option TakenParts → TablePart → TakenParts
before_part None part = begun_by part
before_part (Some p) part = cond (part.part == 0) (begun_by part) p

-- the parts with this one
abbrev pub with_part : Option TakenParts → TablePart → TakenParts
with_part p part =
    let before = before_part p part in
    record { point = before.point; next = part.part + 1; limit = before.limit; rows = before.rows ++ part.rows }

-- the table of all rows that were taken
abbrev pub table_of : TakenParts → RecordTable
table_of p = fold row_added (empty_table p.limit) p.rows

-- the last part makes the table whole
abbrev pub taken_on : TakenParts → TablePart → Option TakenParts × TakePart
taken_on p part = cond (part.part + 1 == part.parts) (None, Whole (table_of p)) (Some p, Taken p.next)

-- the parts after a part, and what came of it
abbrev pub take_part : Option TakenParts → TablePart → Option TakenParts × TakePart
take_part p part =
    cond (is_expected p part) (taken_on (with_part p part) part) (p, Other (expected_point p) (expected_next p))
