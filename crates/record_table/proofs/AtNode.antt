-- A row of a new client, put into the tree on a side of a row: what is known where the call below has returned.
use Rattle.std.proofs.Common.{◌≡◌, ℕ, ◌+◌, ◌<◌, ◌≤◌, Bool, true, false, length, refl, sym, ap, subst, ◌∙◌, arith, nat_lt}
use Rattle.std.specs.Prelude.{Option, Some, None, is_some}
use Rattle.std.specs.Bool.{then_some}
use Rattle.std.specs.declared.rc.Rc.{Rc}
use Rattle.std.specs.declared.alloc.Global.{Global}
use Rattle.values.specs.declared.row.Row.{Row}
use Rattle.values.specs.declared.limits.TheConstants.{MOST_ROWS}
use Rattle.record_rules.specs.Clients.{client_cmp}
use Rattle.record_rules.specs.Table.{row_of}
use Rattle.record_table.specs.declared.node.Node.{Node}
use Rattle.record_table.specs.declared.node.Node.TheViews.{out-Node}
use Rattle.record_table.specs.declared.growth.Side.{Side}
use Rattle.record_table.specs.declared.growth.Side.TheVariants.{Left, Right}
use Rattle.record_table.specs.declared.growth.Growth.{Growth}
use Rattle.record_table.specs.declared.growth.Growth.TheVariants.{Counted, Grew, Over}
use Rattle.record_table.specs.Trees.{Tree, rows_of, size_of, levels_of, tree_of, tree_under, forked, IsBalanced, IsReady}
use Rattle.record_table.specs.Trees.Tree.{Empty, Fork}
use Rattle.record_table.specs.Growths.{toward, near_of, far_of, forked_at, counted as count_growth, IsHigher, IsOver, IsOverAt, IsPut}
use Rattle.record_table.proofs.Nodes.{tree_out}
use Rattle.record_table.proofs.Balanced.{size_is, levels_few}
use Rattle.record_table.proofs.Around.{length-put_new}
use Rattle.record_table.proofs.RowIn.{none_is}
use Rattle.record_table.proofs.Growing.{length_at, node_rows, node_over, few_at, far_level, single, counted, leveled, grown, over, inner, turned}

-- the node behind a link, after it was made the tree's own
pub under_at : (link : Option (Rc Node Global)) (rc rc_too : Rc Node Global) (low : Node) → link ≡ Some rc → tree_of rc_too.value ≡ tree_of rc.value → low ≡ rc_too.value
    → tree_under link ≡ tree_of low
under_at link rc rc_too low is same at = ap tree_under is ∙ sym same ∙ ap tree_of (sym at)

pub shorter_at : (side : Side) (near far : Tree) (r : Row) → length (rows_of near) < length (rows_of (forked_at side near r far))
shorter_at side near far r = let a = length_at side near far r in omega arith

-- the tree below may have had a level more only where it was not the higher side
grew_put : (b : Bool) (side : Side) (far low : ℕ) (old new : Tree) (row : Row) → nat_lt far low ≡ b → IsPut (then_some b side) Grew old row new → IsHigher 1 old row new × (low ≤ far)
grew_put true side far low old new row is put = absurd put
grew_put false side far low old new row is put = (put, grind arith)

over_put : (b : Bool) (side : Side) (far low : ℕ) (old new : Tree) (row : Row) → nat_lt far low ≡ b → IsPut (then_some b side) Over old row new → IsOverAt side old row new × (far < low)
over_put true side far low old new row is put = (put, grind arith)
over_put false side far low old new row is put = absurd put

module _ (side : Side) (near far : Tree) (r row : Row) (ready : IsReady (forked_at side near r far) row.client) (way : client_cmp row.client r.client ≡ toward side)
    (low new : Node) (under : near ≡ tree_of low) (levels : ℕ) (levels_are : levels ≡ levels_of far)
    (above : Option Side) (above_is : above ≡ then_some (nat_lt levels (out-Node low).levels) side)
    (growth : Growth) (put : IsPut above growth (tree_of low) row (tree_of new)) where
  abbrev old : Tree
  old = forked_at side near r far

  level : levels_of near ≡ (out-Node low).levels
  level = ap levels_of under ∙ ap levels_of (tree_out low)

  new_level : levels_of (tree_of new) ≡ (out-Node new).levels
  new_level = ap levels_of (tree_out new)

  put_as : (g : Growth) → growth ≡ g → IsPut (then_some (nat_lt levels (out-Node low).levels) side) g near row (tree_of new)
  put_as g is =
      subst (λ t. IsPut (then_some (nat_lt levels (out-Node low).levels) side) g t row (tree_of new)) (sym under)
      (subst (λ s. IsPut s g (tree_of low) row (tree_of new)) above_is (subst (λ h. IsPut above h (tree_of low) row (tree_of new)) is put))

  is_grew : growth ≡ Grew → IsHigher 1 near row (tree_of new) × ((out-Node low).levels ≤ levels)
  is_grew is = grew_put (nat_lt levels (out-Node low).levels) side levels (out-Node low).levels near (tree_of new) row refl (put_as Grew is)

  is_over : growth ≡ Over → IsOverAt side near row (tree_of new) × (levels < (out-Node low).levels)
  is_over is = over_put (nat_lt levels (out-Node low).levels) side levels (out-Node low).levels near (tree_of new) row refl (put_as Over is)

  shorter : length (rows_of (far_of side new)) < length (rows_of (tree_of new))
  shorter =
      let a = ap length (node_rows side new) in
      let b = length_at side (near_of side new) (far_of side new) (out-Node new).row.value in omega arith

  pub few_over : growth ≡ Over → length (rows_of (far_of side new)) + length (rows_of far) < MOST_ROWS
  few_over is = few_at side near far r row ready way (tree_of new) (far_of side new) (node_over side near row new (is_over is).0).rows shorter

  pub few_grew : growth ≡ Grew → length (rows_of (far_of side new)) + length (rows_of far) < MOST_ROWS
  few_grew is = few_at side near far r row ready way (tree_of new) (far_of side new) (is_grew is).0.rows shorter

  pub at_counted : growth ≡ Counted → IsHigher 0 old row (forked_at side (tree_of new) r far)
  at_counted is = counted side near far r row ready way (tree_of new) (put_as Counted is)

  pub at_level : growth ≡ Grew → (out-Node new).levels ≤ levels → IsHigher 0 old row (forked_at side (tree_of new) r far)
  at_level is low_enough = let e = new_level in leveled side near far r row ready way (tree_of new) (is_grew is).0 (omega arith)

  even : growth ≡ Grew → levels_of near ≤ levels_of far
  even is = let e = level in let low_enough = (is_grew is).1 in omega arith

  pub at_grown : growth ≡ Grew → levels < (out-Node new).levels → IsHigher 1 old row (forked_at side (tree_of new) r far)
  at_grown is high = let e = new_level in grown side near far r row ready way (even is) (tree_of new) (is_grew is).0 (omega arith)

  pub at_over : growth ≡ Grew → levels < (out-Node new).levels → IsOverAt side old row (forked_at side (tree_of new) r far)
  at_over is high = let e = new_level in over side near far r row ready way (even is) (tree_of new) (is_grew is).0 (omega arith)

  module _ (x y : Tree) (q : Row) (outer_is : x ≡ near_of side new) (turned_is : y ≡ forked_at side (far_of side new) r far) (middle_is : q ≡ (out-Node new).row.value) where
    whole : forked_at side (near_of side new) (out-Node new).row.value (forked_at side (far_of side new) r far) ≡ forked_at side x q y
    whole = λ i. forked_at side (sym outer_is i) (sym middle_is i) (sym turned_is i)

    pub at_turned : growth ≡ Over → IsHigher 0 old row (forked_at side x q y)
    at_turned is =
        let p = is_over is in let high = p.1 in let e = level in
        subst (IsHigher 0 old row) whole (turned side near far r row ready way new (node_over side near row new p.0) (omega arith))

    pub at_inner : (other : Side) → (other ≡ side → ⊥) → growth ≡ Grew → levels < (out-Node new).levels → IsOverAt other old row (forked_at side x q y)
    at_inner other differ is high =
        let e = new_level in
        subst (IsOverAt other old row) whole (inner side near far r row ready way (even is) new other differ (is_grew is).0 (omega arith))

-- ---- the row alone as the tree on its side, where there is one on the other side

-- a link that holds a node has a tree of a level at least
filled : (link : Option (Rc Node Global)) → IsBalanced (tree_under link) → is_some link ≡ true → 1 ≤ levels_of (tree_under link)
filled None balanced some = absurd cc
filled (Some rc) balanced some =
    let level = ap levels_of (tree_out rc.value) in
    let high = (subst IsBalanced (tree_out rc.value) balanced).0.high in omega arith

pub hung : (side : Side) (near : Tree) (far : Option (Rc Node Global)) (r row : Row) → IsReady (forked_at side near r (tree_under far)) row.client → client_cmp row.client r.client ≡ toward side
    → near ≡ Empty → is_some far ≡ true → (new : Tree) → new ≡ forked Empty row Empty → IsHigher 0 (forked_at side near r (tree_under far)) row (forked_at side new r (tree_under far))
hung side near far r row ready way none some new is =
    let high = filled far (far_level side near (tree_under far) r row ready way) some in
    let level = ap levels_of is in
    leveled side near (tree_under far) r row ready way new
    (subst (λ u. IsHigher 1 near row u) (sym is) (subst (λ u. IsHigher 1 u row (forked Empty row Empty)) (sym none) (single row)))
    (omega arith)

-- ---- what is written down at the node

is_forked : (l t : Tree) (r : Row) (s v : ℕ) → IsBalanced (Fork l r t s v) → Fork l r t s v ≡ forked l r t
is_forked l t r s v b =
    let size : s ≡ size_of l + size_of t + 1 = (let a = b.0.sized in let d = size_is l b.1 in let e = size_is t b.2 in omega arith) in
    λ i. Fork l r t (size i) (b.0.high i)

module _ (n : Node) (row : Row) (ready : IsReady (tree_of n) row.client) where
  abbrev left : Tree
  left = tree_under (out-Node n).left

  abbrev right : Tree
  right = tree_under (out-Node n).right

  abbrev middle : Row
  middle = (out-Node n).row.value

  node_forked : tree_of n ≡ forked left middle right
  node_forked = tree_out n ∙ is_forked left right middle (out-Node n).size (out-Node n).levels (subst IsBalanced (tree_out n) ready.balanced)

  pub ready_node : IsReady (forked left middle right) row.client
  ready_node = subst (λ t. IsReady t row.client) node_forked ready

  pub size_few : (out-Node n).size < MOST_ROWS
  size_few =
      let size = ap size_of (tree_out n) in
      let is = size_is (tree_of n) ready.balanced in
      let few = ready.few in omega arith

  pub levels_fit : (out-Node n).levels < MOST_ROWS
  levels_fit =
      let level = ap levels_of (tree_out n) in
      let low = levels_few (tree_of n) ready.balanced in
      let few = ready.few in omega arith

  -- the node has the rows of the fork
  pub rows_node : length (rows_of (forked left middle right)) ≡ length (rows_of (tree_of n))
  rows_node = ap (λ t. length (rows_of t)) (sym node_forked)

  higher_node : (by : ℕ) (l t : Tree) (q : Row) (v : ℕ) → v ≡ (out-Node n).levels + by → IsHigher by (forked left middle right) row (forked l q t)
      → IsHigher by (tree_of n) row (Fork l q t ((out-Node n).size + 1) v)
  higher_node by l t q v levels put =
      let more = ap length put.rows ∙ length-put_new (rows_of (forked left middle right)) row (none_is (row_of (rows_of (forked left middle right)) row.client) ready_node.unknown) in
      let size = size_is (forked l q t) put.balanced in
      let size_before = size_is (tree_of n) ready.balanced in
      let written = ap size_of (tree_out n) in
      let written_levels = ap levels_of (tree_out n) in
      let length_before = ap (λ u. length (rows_of u)) node_forked in
      let levels_before = ap levels_of node_forked in
      let high = put.levels in
      let size_is : size_of (forked l q t) ≡ (out-Node n).size + 1 = omega arith in
      let levels_are : levels_of (forked l q t) ≡ v = omega arith in
      subst (λ u. IsHigher by u row (Fork l q t ((out-Node n).size + 1) v)) (sym node_forked)
      (subst (IsHigher by (forked left middle right) row) (λ i. Fork l q t (size_is i) (levels_are i)) put)

  over_node : (side : Side) (l t : Tree) (q : Row) → IsOverAt side (forked left middle right) row (forked l q t)
      → IsOverAt side (tree_of n) row (Fork l q t (out-Node n).size (out-Node n).levels)
  over_node Left l t q put =
      subst (λ u. IsOver u row (Fork l q t (out-Node n).size (out-Node n).levels) l t) (sym node_forked)
      (record { rows = put.rows; outer_balanced = put.outer_balanced; inner_balanced = put.inner_balanced; high = put.high; less = put.less; low = put.low })
  over_node Right l t q put =
      subst (λ u. IsOver u row (Fork l q t (out-Node n).size (out-Node n).levels) t l) (sym node_forked)
      (record { rows = put.rows; outer_balanced = put.outer_balanced; inner_balanced = put.inner_balanced; high = put.high; less = put.less; low = put.low })

  put_node : (above : Option Side) (growth : Growth) (l t : Tree) (q : Row) → IsPut above growth (forked left middle right) row (forked l q t)
      → IsPut above growth (tree_of n) row (count_growth growth (Fork l q t (out-Node n).size (out-Node n).levels))
  put_node above Counted l t q put = higher_node 0 l t q (out-Node n).levels (omega arith) put
  put_node None Grew l t q put = higher_node 1 l t q ((out-Node n).levels + 1) refl put
  put_node None Over l t q put = absurd put
  put_node (Some side) Grew l t q put = absurd put
  put_node (Some side) Over l t q put = over_node side l t q put

  -- the same of the node that was written
  pub put_in_node : (above : Option Side) (growth : Growth) (l t kept written : Tree) (q : Row) → kept ≡ Fork l q t (out-Node n).size (out-Node n).levels
      → written ≡ count_growth growth kept → IsPut above growth (forked left middle right) row (forked l q t) → IsPut above growth (tree_of n) row written
  put_in_node above growth l t kept written q is count put =
      subst (IsPut above growth (tree_of n) row) (sym (count ∙ ap (count_growth growth) is)) (put_node above growth l t q put)
