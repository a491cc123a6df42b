-- The tree of a node by its fields.
use Rattle.std.proofs.Common.{◌≡◌, refl, ◌∙◌}
use Rattle.std.specs.Prelude.{Option, Some, None}
use Rattle.std.specs.declared.rc.Rc.{Rc}
use Rattle.std.specs.declared.alloc.Global.{Global}
use Rattle.record_table.specs.declared.node.Node.{Node}
use Rattle.record_table.specs.declared.node.Node.TheOpen.{Node-F}
use Rattle.record_table.specs.declared.node.Node.TheViews.{out-Node, roll-Node}
use Rattle.record_table.specs.declared.node.Node.TheFolds.{fold-Node, fold_out-Node, fold-roll-Node, map-Node}
use Rattle.record_table.specs.Trees.{Tree, Fork, node_step, tree_of, tree_under, tree_at, root_of, behind}

module _ (n : Node-F Node) where
  left_side : behind (map-Node Node Tree (fold-Node Tree node_step) n).left ≡ tree_under n.left
  left_side =
      elim n.left as (λ l. behind (map-Node Node Tree (fold-Node Tree node_step) (record n { left = l })).left ≡ tree_under l) [ None ↦ refl | Some rc ↦ refl ]

  right_side : behind (map-Node Node Tree (fold-Node Tree node_step) n).right ≡ tree_under n.right
  right_side =
      elim n.right as (λ l. behind (map-Node Node Tree (fold-Node Tree node_step) (record n { right = l })).right ≡ tree_under l) [ None ↦ refl | Some rc ↦ refl ]

  stepped : node_step (map-Node Node Tree (fold-Node Tree node_step) n) ≡ Fork (tree_under n.left) n.row.value (tree_under n.right) n.size n.levels
  stepped = λ i. Fork (left_side i) n.row.value (right_side i) n.size n.levels

pub tree_out : (n : Node) → tree_of n ≡ Fork (tree_under (out-Node n).left) (out-Node n).row.value (tree_under (out-Node n).right) (out-Node n).size (out-Node n).levels
tree_out n = fold_out-Node Tree node_step n ∙ stepped (out-Node n)

pub tree_roll : (n : Node-F Node) → tree_of (roll-Node n) ≡ Fork (tree_under n.left) n.row.value (tree_under n.right) n.size n.levels
tree_roll n = fold-roll-Node Tree node_step n ∙ stepped n

pub at_root : (link : Option (Rc Node Global)) → tree_at (root_of link) ≡ tree_under link
at_root None = refl
at_root (Some rc) = refl
