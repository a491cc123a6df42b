-- The parts of a path's table that were taken.
use Rattle.std.specs.Prelude.{◌≡◌, ◌+◌, ◌*◌, ◌<◌, true, false, ◌==◌, List, [], take, Option, Some, None, IfSome, IsTrue}
use Rattle.values.specs.declared.row.Row.{Row}
use Rattle.values.specs.declared.peer.TablePart.{TablePart}
use Rattle.values.specs.declared.limits.TheConstants.{ROWS_PER_PART}
use Rattle.replica_model.specs.Path.{Link, same_point}
use Rattle.replica_model.specs.Folds.{fold_of}
use Rattle.replica_model.specs.Replica.{Named, Taking}
use Rattle.replica_model.specs.Tables.{rows_of, point_taken, is_taken, taken_with}
use Rattle.table_transfer.specs.declared.taking.TakePart.{TakePart}
use Rattle.table_transfer.specs.declared.taking.TakePart.TheVariants.{Taken, Whole, Other}
use Rattle.table_transfer.specs.TakenParts.{TakenParts, expected_point, expected_next}

-- the rows that were taken
abbrev pub rows_taken : Option TakenParts → List Row
rows_taken None = []
rows_taken (Some p) = p.rows

-- what was taken are the first parts of the path's table
pub record TakesPartsOf (link : Link) (p : Option TakenParts) (t : Taking) : Type 0 where
  pub point : expected_point p ≡ point_taken link t
  pub next : expected_next p ≡ t.next
  pub limit : IfSome p (λ parts. parts.limit ≡ t.names.limit)
  pub rows : rows_taken p ≡ take (ROWS_PER_PART * t.next) (rows_of t.names)

-- a later part of the table at the same point is of the same path as those before it
abbrev pub GoesOn : Link → Taking → TablePart → Named → Type 0
GoesOn link t part names = 0 < part.part → IsTrue (same_point part.point (point_taken link t)) → names ≡ t.names

-- the answer, and the parts after it, are those of the path's table: a whole table is the path's own
pub record TakesAs (link : Link) (t : Taking) (part : TablePart) (names : Named) (p : Option TakenParts) (answer : TakePart) : Type 0 where
  pub other : is_taken link t part ≡ false → (answer ≡ Other (point_taken link t) t.next) × TakesPartsOf link p t
  pub taken : is_taken link t part ≡ true → (part.part + 1 == part.parts) ≡ false
      → (answer ≡ Taken (part.part + 1)) × TakesPartsOf link p (taken_with t part names)
  pub whole : is_taken link t part ≡ true → (part.part + 1 == part.parts) ≡ true
      → (answer ≡ Whole (fold_of (taken_with t part names).names.limit names.path)) × (p ≡ None)
