-- The sizes of valid records.
use Rattle.std.specs.Prelude.{◌≤◌, length, IfSome, All}
use Rattle.values.specs.declared.row.Kept.{Kept}
use Rattle.values.specs.declared.row.Row.{Row}
use Rattle.values.specs.Sizes.{IsSecret, AreTries}
use Rattle.values.specs.declared.limits.TheConstants.{MOST_ROWS}
use Rattle.record_rules.specs.Table.{RecordTable, IsRising}

-- each size of the record is in its range
abbrev pub IsValidRecord : Kept → Type 0
IsValidRecord kept = IsSecret kept.secret × AreTries kept.left

abbrev pub IsValidRow : Row → Type 0
IsValidRow row = IfSome row.kept IsValidRecord

-- what holds of every table
pub record IsSound (table : RecordTable) : Type 0 where
  pub limit_least : 1 ≤ table.limit
  pub limit_most : table.limit ≤ MOST_ROWS
  pub few : length table.rows ≤ table.limit
  pub rising : IsRising table.rows
  pub valid : All IsValidRow table.rows
