-- Search trees of rows.
use Rattle.std.specs.Prelude.{◌≡◌, ℕ, ◌+◌, ◌≤◌, ◌<◌, max, List, [], ◌∷◌, ◌++◌, length, Option, Some, None, IsNone, ⊤}
use Rattle.std.specs.declared.rc.Rc.{Rc}
use Rattle.std.specs.declared.alloc.Global.{Global}
use Rattle.values.specs.declared.ids.ClientId.{ClientId}
use Rattle.values.specs.declared.row.Row.{Row}
use Rattle.record_rules.specs.Table.{row_of, put_row, IsRising}
use Rattle.values.specs.declared.limits.TheConstants.{MOST_ROWS}
use Rattle.record_table.specs.declared.node.Node.{Node}
use Rattle.record_table.specs.declared.node.Node.TheOpen.{Node-F}
use Rattle.record_table.specs.declared.node.Node.TheFolds.{fold-Node}

-- a tree is empty, or a row between two trees, with its number of rows and its number of levels as they are written down
pub data Tree : Type 0 where
  Empty : Tree
  Fork : (left : Tree) (row : Row) (right : Tree) (size levels : ℕ) → Tree

-- the rows, left before row before right
abbrev pub rows_of : Tree → List Row
rows_of Empty = []
rows_of (Fork left row right size levels) = rows_of left ++ row ∷ rows_of right

-- the number of rows as it is written down; an empty tree has none
abbrev pub size_of : Tree → ℕ
size_of Empty = 0
size_of (Fork left row right size levels) = size

-- the number of levels as it is written down; an empty tree has none
abbrev pub levels_of : Tree → ℕ
levels_of Empty = 0
levels_of (Fork left row right size levels) = levels

-- what is written down is true, and the levels of the two sides differ by at most one
pub record IsLevel (left right : Tree) (size levels : ℕ) : Type 0 where
  pub sized : size ≡ length (rows_of left) + length (rows_of right) + 1
  pub high : levels ≡ max (levels_of left) (levels_of right) + 1
  pub left_low : levels_of left ≤ levels_of right + 1
  pub right_low : levels_of right ≤ levels_of left + 1

-- so it is at every row of the tree
abbrev pub IsBalanced : Tree → Type 0
IsBalanced Empty = ⊤
IsBalanced (Fork left row right size levels) = IsLevel left right size levels × IsBalanced left × IsBalanced right

-- a row between two trees
abbrev pub forked : Tree → Row → Tree → Tree
forked left row right = Fork left row right (size_of left + size_of right + 1) (max (levels_of left) (levels_of right) + 1)

-- what a tree must be that a row of a new client is put into
pub record IsReady (tree : Tree) (client : ClientId) : Type 0 where
  pub balanced : IsBalanced tree
  pub rising : IsRising (rows_of tree)
  pub unknown : IsNone (row_of (rows_of tree) client)
  pub few : length (rows_of tree) < MOST_ROWS

-- the tree is the old one with the row of a new client
pub record IsPutIn (old : Tree) (row : Row) (whole : Tree) : Type 0 where
  pub rows : rows_of whole ≡ put_row (rows_of old) row
  pub balanced : IsBalanced whole

-- the tree is the old one with the row in the place of its client's
pub record IsWrittenIn (old : Tree) (row : Row) (whole : Tree) : Type 0 where
  pub rows : rows_of whole ≡ put_row (rows_of old) row
  pub balanced : IsBalanced whole
  pub size : size_of whole ≡ size_of old
  pub levels : levels_of whole ≡ levels_of old

-- ---- the tree of a node, and that behind a link

abbrev pub behind : Option (Rc Tree Global) → Tree
behind None = Empty
behind (Some rc) = rc.value

abbrev pub node_step : Node-F Tree → Tree
node_step n = Fork (behind n.left) n.row.value (behind n.right) n.size n.levels

abbrev pub tree_of : Node → Tree
tree_of = fold-Node Tree node_step

abbrev pub tree_under : Option (Rc Node Global) → Tree
tree_under None = Empty
tree_under (Some rc) = tree_of rc.value

-- the node behind a link
abbrev pub root_of : Option (Rc Node Global) → Option Node
root_of None = None
root_of (Some rc) = Some rc.value

-- the tree of a root
abbrev pub tree_at : Option Node → Tree
tree_at None = Empty
tree_at (Some node) = tree_of node

-- a tree of rows of clients that rise, not more of them than a store has to hold, and balanced
pub record IsTree (tree : Tree) : Type 0 where
  pub balanced : IsBalanced tree
  pub rising : IsRising (rows_of tree)
  pub few : length (rows_of tree) ≤ MOST_ROWS
