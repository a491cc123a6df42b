-- The record table as a value.
use Rattle.std.specs.Prelude.{◌≡◌, ℕ, List, [], ◌∷◌, Bool, ◌&&◌, nat_lt, is_none, if◌then◌else◌, length, Option, Some, None, find, AllPairs}
use Rattle.std.specs.declared.cmp.Ordering.TheVariants.{Less}
use Rattle.std.specs.Ordering.{match_ordering}
use Rattle.values.specs.declared.ids.ClientId.{ClientId}
use Rattle.values.specs.declared.row.Row.{Row}
use Rattle.values.specs.declared.row.Kept.{Kept}
use Rattle.record_rules.specs.Clients.{client_cmp, client_eq}

-- a limit, and a finite map from clients to rows: the list of the rows, in strictly rising client order
pub record RecordTable : Type 0 where
  pub limit : ℕ
  pub rows : List Row

-- the table of a limit in which no client is known
abbrev pub empty_table : ℕ → RecordTable
empty_table limit = record { limit = limit; rows = [] }

-- the client's row, if the client is known
abbrev pub row_of : List Row → ClientId → Option Row
row_of rows client = find (λ row. client_eq row.client client) rows

-- the record of a row, if there is one
abbrev pub kept_in : Option Row → Option Kept
kept_in None = None
kept_in (Some row) = row.kept

-- the rows with this one in the place of its client's, or added at its place
abbrev pub put_row : List Row → Row → List Row
put_row [] row = row ∷ []
put_row (r ∷ rows) row = match_ordering (client_cmp row.client r.client) (row ∷ r ∷ rows) (row ∷ rows) (r ∷ put_row rows row)

-- each row's client comes before each later row's
abbrev pub IsRising : List Row → Type 0
IsRising rows = AllPairs (λ r s. client_cmp r.client s.client ≡ Less) rows

-- whether a row of a client that is not known can be added
abbrev pub can_add : RecordTable → Row → Bool
can_add table row = is_none (row_of table.rows row.client) && nat_lt (length table.rows) table.limit

-- the table with the row added
abbrev pub with_row : RecordTable → Row → RecordTable
with_row table row = record table { rows = put_row table.rows row }

-- the table with the row, unless its client is known or there is no room
abbrev pub row_added : RecordTable → Row → RecordTable
row_added table row = if can_add table row then with_row table row else table
