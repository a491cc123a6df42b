-- How many parts a table has.
use Rattle.std.proofs.Common.{◌*◌, ◌≤◌, List, length, arith}
use Rattle.values.specs.declared.row.Row.{Row}
use Rattle.replica_model.specs.Tables.{parts_of}

-- the rows fit into the parts
pub rows_fit : (rows : List Row) → length rows ≤ 32 * parts_of rows
rows_fit rows = omega arith

-- a table of at most 20,000 rows has at most 625 parts
pub few_parts : (rows : List Row) → length rows ≤ 20000 → parts_of rows ≤ 625
few_parts rows few = omega (arith, few)
