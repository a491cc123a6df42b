-- What a row more makes of a tree.
use Rattle.std.specs.Prelude.{◌≡◌, ℕ, ◌+◌, ◌≤◌, ◌<◌, Option, Some, None}
use Rattle.std.specs.declared.cmp.Ordering.{Ordering}
use Rattle.std.specs.declared.cmp.Ordering.TheVariants.{Less, Greater}
use Rattle.values.specs.declared.row.Row.{Row}
use Rattle.record_rules.specs.Table.{put_row}
use Rattle.record_table.specs.declared.growth.Side.{Side}
use Rattle.record_table.specs.declared.growth.Side.TheVariants.{Left, Right}
use Rattle.record_table.specs.declared.growth.Growth.{Growth}
use Rattle.record_table.specs.declared.growth.Growth.TheVariants.{Counted, Grew, Over}
use Rattle.record_table.specs.declared.node.Node.{Node, out-Node}
use Rattle.record_table.specs.Trees.{Tree, rows_of, levels_of, tree_under, forked, IsBalanced}
use Rattle.record_table.specs.Trees.Tree.{Empty, Fork}

-- ---- trees as they are seen from a side

-- how a client whose row stands on the side of a row is ordered to that row's
abbrev pub toward : Side → Ordering
toward Left = Less
toward Right = Greater

-- the tree on the side of a node, and that on its other side
abbrev pub near_of : Side → Node → Tree
near_of Left n = tree_under (out-Node n).left
near_of Right n = tree_under (out-Node n).right

abbrev pub far_of : Side → Node → Tree
far_of Left n = tree_under (out-Node n).right
far_of Right n = tree_under (out-Node n).left

-- a row between a tree on the side and one on the other side
abbrev pub forked_at : Side → Tree → Row → Tree → Tree
forked_at Left near row far = forked near row far
forked_at Right near row far = forked far row near

-- ---- growth

-- the tree is the old one with the row of a new client, and so many levels more
pub record IsHigher (by : ℕ) (old : Tree) (row : Row) (whole : Tree) : Type 0 where
  pub rows : rows_of whole ≡ put_row (rows_of old) row
  pub balanced : IsBalanced whole
  pub levels : levels_of whole ≡ levels_of old + by

-- the tree is the old one with the row of a new client, and is to be turned: its sides are balanced, and its outer side is as high as
-- the old tree was, and higher than its inner side, by two levels at most
pub record IsOver (old : Tree) (row : Row) (whole outer inner : Tree) : Type 0 where
  pub rows : rows_of whole ≡ put_row (rows_of old) row
  pub outer_balanced : IsBalanced outer
  pub inner_balanced : IsBalanced inner
  pub high : levels_of outer ≡ levels_of old
  pub less : levels_of inner < levels_of outer
  pub low : levels_of outer ≤ levels_of inner + 2

-- the same of the tree that is the side of a node
abbrev pub IsOverAt : Side → Tree → Row → Tree → Type 0
IsOverAt side old row Empty = ⊥
IsOverAt Left old row (Fork left middle right size levels) = IsOver old row (Fork left middle right size levels) left right
IsOverAt Right old row (Fork left middle right size levels) = IsOver old row (Fork left middle right size levels) right left

-- the tree is the old one with the row of a new client, as the growth says and the node above allows: as the higher side of that one
-- it may not have a level more
abbrev pub IsPut : Option Side → Growth → Tree → Row → Tree → Type 0
IsPut above Counted old row whole = IsHigher 0 old row whole
IsPut None Grew old row whole = IsHigher 1 old row whole
IsPut None Over old row whole = ⊥
IsPut (Some side) Grew old row whole = ⊥
IsPut (Some side) Over old row whole = IsOverAt side old row whole

-- the tree with what the growth says written down
abbrev pub counted : Growth → Tree → Tree
counted growth Empty = Empty
counted Counted (Fork left row right size levels) = Fork left row right (size + 1) levels
counted Grew (Fork left row right size levels) = Fork left row right (size + 1) (levels + 1)
counted Over (Fork left row right size levels) = Fork left row right size levels
