-- A row of a new client, put into the tree on a side of a row.
use Rattle.std.proofs.Common.{◌≡◌, ℕ, ◌+◌, ◌<◌, ◌≤◌, max, length, refl, sym, ap, subst, ◌∙◌, arith, length-append, append_assoc, ◌∷◌, ◌++◌}
use Rattle.values.specs.declared.row.Row.{Row}
use Rattle.values.specs.declared.limits.TheConstants.{MOST_ROWS}
use Rattle.record_rules.specs.Clients.{client_cmp}
use Rattle.record_rules.specs.Table.{row_of, put_row}
use Rattle.record_table.specs.declared.growth.Side.{Side}
use Rattle.record_table.specs.declared.growth.Side.TheVariants.{Left, Right}
use Rattle.record_table.specs.declared.node.Node.{Node, out-Node}
use Rattle.record_table.specs.Trees.{Tree, rows_of, levels_of, tree_of, forked, IsBalanced, IsReady}
use Rattle.record_table.specs.Trees.Tree.{Empty}
use Rattle.record_table.specs.Growths.{toward, near_of, far_of, forked_at, IsHigher, IsOver, IsOverAt}
use Rattle.record_table.proofs.Nodes.{tree_out}
use Rattle.record_table.proofs.Balanced.{forked_balanced}
use Rattle.record_table.proofs.Around.{put_row-below, put_row-above, length-put_new}
use Rattle.record_table.proofs.RowIn.{none_is, ready_left, ready_right}

-- ---- a row between two trees, by the side

-- two balanced trees whose levels differ by at most one
pub record AreLevel (near far : Tree) : Type 0 where
  pub near_balanced : IsBalanced near
  pub far_balanced : IsBalanced far
  pub near_low : levels_of near ≤ levels_of far + 1
  pub far_low : levels_of far ≤ levels_of near + 1

opened_at : (side : Side) (near far : Tree) (r : Row) → IsBalanced (forked_at side near r far) → AreLevel near far
opened_at Left near far r b = record { near_balanced = b.1; far_balanced = b.2; near_low = b.0.left_low; far_low = b.0.right_low }
opened_at Right near far r b = record { near_balanced = b.2; far_balanced = b.1; near_low = b.0.right_low; far_low = b.0.left_low }

balanced_at : (side : Side) (near far : Tree) (r : Row) → AreLevel near far → IsBalanced (forked_at side near r far)
balanced_at Left near far r b = forked_balanced near far r b.near_balanced b.far_balanced b.near_low b.far_low
balanced_at Right near far r b = forked_balanced far near r b.far_balanced b.near_balanced b.far_low b.near_low

levels_at : (side : Side) (near far : Tree) (r : Row) → levels_of (forked_at side near r far) ≡ max (levels_of near) (levels_of far) + 1
levels_at Left near far r = refl
levels_at Right near far r = omega arith

pub length_at : (side : Side) (near far : Tree) (r : Row) → length (rows_of (forked_at side near r far)) ≡ length (rows_of near) + length (rows_of far) + 1
length_at Left near far r = omega (arith, length-append (rows_of near) (r ∷ rows_of far))
length_at Right near far r = omega (arith, length-append (rows_of far) (r ∷ rows_of near))

-- the row goes to the tree on its side
pub ready_at : (side : Side) (near far : Tree) (r row : Row) → IsReady (forked_at side near r far) row.client → client_cmp row.client r.client ≡ toward side → IsReady near row.client
ready_at Left near far r row ready way = ready_left near far r row _ _ ready way
ready_at Right near far r row ready way = ready_right far near r row _ _ ready way

rows_at : (side : Side) (near far new : Tree) (r row : Row) → IsReady (forked_at side near r far) row.client → client_cmp row.client r.client ≡ toward side
    → rows_of new ≡ put_row (rows_of near) row → rows_of (forked_at side new r far) ≡ put_row (rows_of (forked_at side near r far)) row
rows_at Left near far new r row ready way is = ap (λ rows. rows ++ r ∷ rows_of far) is ∙ sym (put_row-below (rows_of near) r (rows_of far) row way)
rows_at Right near far new r row ready way is = ap (λ rows. rows_of far ++ r ∷ rows) is ∙ sym (put_row-above (rows_of far) r (rows_of near) row ready.rising way)

-- a turn leaves the rows in their order
turned_rows : (side : Side) (outer inner far : Tree) (q r : Row)
    → rows_of (forked_at side outer q (forked_at side inner r far)) ≡ rows_of (forked_at side (forked_at side outer q inner) r far)
turned_rows Left outer inner far q r = sym (append_assoc (rows_of outer) (q ∷ rows_of inner) (r ∷ rows_of far))
turned_rows Right outer inner far q r = append_assoc (rows_of far) (r ∷ rows_of inner) (q ∷ rows_of outer)

-- ---- a node, by the side

pub node_rows : (side : Side) (n : Node) → rows_of (tree_of n) ≡ rows_of (forked_at side (near_of side n) (out-Node n).row.value (far_of side n))
node_rows Left n = ap rows_of (tree_out n)
node_rows Right n = ap rows_of (tree_out n)

pub node_level : (side : Side) (n : Node) → IsBalanced (tree_of n) → AreLevel (near_of side n) (far_of side n)
node_level Left n b = let c = subst IsBalanced (tree_out n) b in record { near_balanced = c.1; far_balanced = c.2; near_low = c.0.left_low; far_low = c.0.right_low }
node_level Right n b = let c = subst IsBalanced (tree_out n) b in record { near_balanced = c.2; far_balanced = c.1; near_low = c.0.right_low; far_low = c.0.left_low }

node_levels : (side : Side) (n : Node) → IsBalanced (tree_of n) → levels_of (tree_of n) ≡ max (levels_of (near_of side n)) (levels_of (far_of side n)) + 1
node_levels Left n b = let c = (subst IsBalanced (tree_out n) b).0.high in let e = ap levels_of (tree_out n) in omega arith
node_levels Right n b = let c = (subst IsBalanced (tree_out n) b).0.high in let e = ap levels_of (tree_out n) in omega arith

pub node_over : (side : Side) (old : Tree) (row : Row) (n : Node) → IsOverAt side old row (tree_of n) → IsOver old row (tree_of n) (near_of side n) (far_of side n)
node_over Left old row n over = subst (λ t. IsOver old row t (near_of Left n) (far_of Left n)) (sym (tree_out n)) (subst (IsOverAt Left old row) (tree_out n) over)
node_over Right old row n over = subst (λ t. IsOver old row t (near_of Right n) (far_of Right n)) (sym (tree_out n)) (subst (IsOverAt Right old row) (tree_out n) over)

-- ---- which side of a tree is the outer one

over_near : (side : Side) (old near far : Tree) (r row : Row) → IsOver old row (forked_at side near r far) near far → IsOverAt side old row (forked_at side near r far)
over_near Left old near far r row over = over
over_near Right old near far r row over = over

over_far : (side other : Side) (old near far : Tree) (r row : Row) → (other ≡ side → ⊥) → IsOver old row (forked_at side near r far) far near
    → IsOverAt other old row (forked_at side near r far)
over_far Left Left old near far r row differ over = absurd (differ refl)
over_far Left Right old near far r row differ over = over
over_far Right Left old near far r row differ over = over
over_far Right Right old near far r row differ over = absurd (differ refl)

-- ---- what becomes of the tree

-- a tree of one row
pub single : (row : Row) → IsHigher 1 Empty row (forked Empty row Empty)
single row = record { rows = refl; balanced = forked_balanced Empty Empty row tt tt (omega arith) (omega arith); levels = refl }

module _ (side : Side) (near far : Tree) (r row : Row) (ready : IsReady (forked_at side near r far) row.client) (way : client_cmp row.client r.client ≡ toward side) where
  abbrev old : Tree
  old = forked_at side near r far

  level : AreLevel near far
  level = opened_at side near far r ready.balanced

  pub far_level : IsBalanced far
  far_level = level.far_balanced

  -- the tree on the other side and one no longer than that on the row's side with it are fewer rows than a store has to hold
  pub few_at : (new inner : Tree) → rows_of new ≡ put_row (rows_of near) row → length (rows_of inner) < length (rows_of new)
      → length (rows_of inner) + length (rows_of far) < MOST_ROWS
  few_at new inner is short =
      let longer = ap length is ∙ length-put_new (rows_of near) row (none_is (row_of (rows_of near) row.client) (ready_at side near far r row ready way).unknown) in
      let whole = length_at side near far r in
      let few = ready.few in omega arith

  -- the tree has so many levels more, where the tree on the row's side has so many more
  higher : (by more : ℕ) (new : Tree) → IsHigher more near row new → levels_of new ≤ levels_of far + 1
      → max (levels_of new) (levels_of far) ≡ max (levels_of near) (levels_of far) + by → IsHigher by old row (forked_at side new r far)
  higher by more new put low levels =
      let e = put.levels in
      let h = level.far_low in
      record {
        rows = rows_at side near far new r row ready way put.rows;
        balanced = balanced_at side new far r (record { near_balanced = put.balanced; far_balanced = level.far_balanced; near_low = low; far_low = (omega arith) });
        levels = (let a = levels_at side near far r in let b = levels_at side new far r in omega arith);
      }

  pub counted : (new : Tree) → IsHigher 0 near row new → IsHigher 0 old row (forked_at side new r far)
  counted new put = let e = put.levels in let h = level.near_low in higher 0 0 new put (omega arith) (omega arith)

  pub leveled : (new : Tree) → IsHigher 1 near row new → levels_of new ≤ levels_of far → IsHigher 0 old row (forked_at side new r far)
  leveled new put low = let e = put.levels in higher 0 1 new put (omega arith) (omega arith)

  module _ (even : levels_of near ≤ levels_of far) where
    pub grown : (new : Tree) → IsHigher 1 near row new → levels_of far < levels_of new → IsHigher 1 old row (forked_at side new r far)
    grown new put high = let e = put.levels in higher 1 1 new put (omega arith) (omega arith)

    pub over : (new : Tree) → IsHigher 1 near row new → levels_of far < levels_of new → IsOverAt side old row (forked_at side new r far)
    over new put high =
        let e = put.levels in
        let a = levels_at side near far r in
        over_near side old new far r row (record {
          rows = rows_at side near far new r row ready way put.rows;
          outer_balanced = put.balanced;
          inner_balanced = level.far_balanced;
          high = (omega arith);
          less = high;
          low = (omega arith);
        })

    -- the tree on the row's side was turned, since the other side is to be the outer one
    pub inner : (n : Node) (other : Side) → (other ≡ side → ⊥) → IsHigher 1 near row (tree_of n) → levels_of far < levels_of (tree_of n)
        → IsOverAt other old row (forked_at side (near_of side n) (out-Node n).row.value (forked_at side (far_of side n) r far))
    inner n other differ put high =
        let e = put.levels in
        let a = levels_at side near far r in
        let low = node_level side n put.balanced in
        let b = node_levels side n put.balanced in
        let c = levels_at side (far_of side n) far r in
        let i = low.near_low in
        let j = low.far_low in
        over_far side other old (near_of side n) (forked_at side (far_of side n) r far) (out-Node n).row.value row differ (record {
          rows =
              turned_rows side (near_of side n) (far_of side n) far (out-Node n).row.value r
              ∙ rows_at side near far (forked_at side (near_of side n) (out-Node n).row.value (far_of side n)) r row ready way (sym (node_rows side n) ∙ put.rows);
          outer_balanced = balanced_at side (far_of side n) far r (record { near_balanced = low.far_balanced; far_balanced = level.far_balanced; near_low = (omega arith); far_low = (omega arith) });
          inner_balanced = low.near_balanced;
          high = (omega arith);
          less = (omega arith);
          low = (omega arith);
        })

  -- the tree on the row's side was turned, and is balanced then
  pub turned : (n : Node) → IsOver near row (tree_of n) (near_of side n) (far_of side n) → levels_of far < levels_of near
      → IsHigher 0 old row (forked_at side (near_of side n) (out-Node n).row.value (forked_at side (far_of side n) r far))
  turned n put higher =
      let i = level.near_low in
      let j = put.high in
      let k = put.less in
      let m = put.low in
      let a = levels_at side near far r in
      let b = levels_at side (far_of side n) far r in
      let c = levels_at side (near_of side n) (forked_at side (far_of side n) r far) (out-Node n).row.value in
      let low = balanced_at side (far_of side n) far r (record { near_balanced = put.inner_balanced; far_balanced = level.far_balanced; near_low = (omega arith); far_low = (omega arith) }) in
      record {
        rows =
            turned_rows side (near_of side n) (far_of side n) far (out-Node n).row.value r
            ∙ rows_at side near far (forked_at side (near_of side n) (out-Node n).row.value (far_of side n)) r row ready way (sym (node_rows side n) ∙ put.rows);
        balanced =
            balanced_at side (near_of side n) (forked_at side (far_of side n) r far) (out-Node n).row.value
            (record { near_balanced = put.outer_balanced; far_balanced = low; near_low = (omega arith); far_low = (omega arith) });
        levels = (omega arith);
      }
