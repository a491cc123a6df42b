-- Walks down a tree: where a client's row is, and where the row of a place.
use Rattle.std.proofs.Common.{◌≡◌, ℕ, zero, suc, ◌+◌, ◌<◌, List, [], ◌∷◌, ◌++◌, length, refl, sym, ap, subst, ◌∙◌, arith}
use Rattle.std.specs.Prelude.{Some, slice_get}
use Rattle.values.specs.declared.ids.ClientId.{ClientId}
use Rattle.values.specs.declared.row.Row.{Row}
use Rattle.record_table.specs.declared.node.Node.{Node}
use Rattle.record_table.specs.declared.node.Node.TheViews.{out-Node}
use Rattle.record_rules.specs.Clients.{IsNumberOf}
use Rattle.record_rules.specs.Table.{row_of, IsRising}
use Rattle.record_table.specs.Trees.{Tree, tree_of, tree_under, rows_of, size_of, IsBalanced}
use Rattle.record_table.proofs.SlotsLemmas.{below_by_number}
use Rattle.record_table.proofs.Nodes.{tree_out}
use Rattle.record_table.proofs.Around.{rising_front, rising_back, row_of-below, row_of-middle, row_of-above}
use Rattle.record_table.proofs.Balanced.{size_is}
use Rattle.record_table.proofs.RowIn.{above_by_number, same_number}

module _ (n : Node) where
  abbrev left : Tree
  left = tree_under (out-Node n).left

  abbrev right : Tree
  right = tree_under (out-Node n).right

  abbrev middle : Row
  middle = (out-Node n).row.value

  rows_are : rows_of (tree_of n) ≡ rows_of left ++ middle ∷ rows_of right
  rows_are = ap rows_of (tree_out n)

  module _ (client : ClientId) (number at : ℕ) (mine : IsNumberOf client number) (other : IsNumberOf middle.client at) (rising : IsRising (rows_of (tree_of n))) where
    rises : IsRising (rows_of left ++ middle ∷ rows_of right)
    rises = subst IsRising rows_are rising

    pub found_here : number ≡ at → Some middle ≡ row_of (rows_of (tree_of n)) client
    found_here e =
        sym (ap (λ rows. row_of rows client) rows_are ∙ row_of-middle (rows_of left) middle (rows_of right) client rises (same_number client middle.client number at mine other e))

    pub found_left : number < at → row_of (rows_of left) client ≡ row_of (rows_of (tree_of n)) client
    found_left h =
        sym (ap (λ rows. row_of rows client) rows_are ∙ row_of-below (rows_of left) middle (rows_of right) client rises (below_by_number client middle.client number at mine other h))

    pub found_right : at < number → row_of (rows_of right) client ≡ row_of (rows_of (tree_of n)) client
    found_right h =
        sym (ap (λ rows. row_of rows client) rows_are ∙ row_of-above (rows_of left) middle (rows_of right) client rises (above_by_number client middle.client number at mine other h))

    pub rising_left : IsRising (rows_of left)
    rising_left = rising_front (rows_of left) (middle ∷ rows_of right) rises

    pub rising_right : IsRising (rows_of right)
    rising_right = rising_back (rows_of left) middle (rows_of right) rises

-- ---- the row of a place

at_middle : (l : List Row) (r : Row) (s : List Row) (i : ℕ) → i ≡ length l → slice_get (l ++ r ∷ s) i ≡ Some r
at_middle [] r s zero e = refl
at_middle [] r s (suc i) e = absurd (omega arith)
at_middle (y ∷ l) r s zero e = absurd (omega arith)
at_middle (y ∷ l) r s (suc i) e = at_middle l r s i (omega arith)

in_front : (l : List Row) (r : Row) (s : List Row) (i : ℕ) → i < length l → slice_get (l ++ r ∷ s) i ≡ slice_get l i
in_front [] r s i h = absurd (omega arith)
in_front (y ∷ l) r s zero h = refl
in_front (y ∷ l) r s (suc i) h = in_front l r s i (omega arith)

in_back : (l : List Row) (r : Row) (s : List Row) (i j : ℕ) → i ≡ length l + 1 + j → slice_get (l ++ r ∷ s) i ≡ slice_get s j
in_back [] r s zero j e = absurd (omega arith)
in_back [] r s (suc i) j e = ap (slice_get s) (omega arith)
in_back (y ∷ l) r s zero j e = absurd (omega arith)
in_back (y ∷ l) r s (suc i) j e = in_back l r s i j (omega arith)

module _ (n : Node) (b : IsBalanced (tree_of n)) where
  sides : IsBalanced (tree_under (out-Node n).left) × IsBalanced (tree_under (out-Node n).right)
  sides = let o = subst IsBalanced (tree_out n) b in (o.1, o.2)

  pub balanced_left : IsBalanced (tree_under (out-Node n).left)
  balanced_left = sides.0

  pub balanced_right : IsBalanced (tree_under (out-Node n).right)
  balanced_right = sides.1

  pub place_here : (i : ℕ) → i ≡ size_of (tree_under (out-Node n).left) → Some (out-Node n).row.value ≡ slice_get (rows_of (tree_of n)) i
  place_here i e =
      sym (ap (λ rows. slice_get rows i) (rows_are n)
      ∙ at_middle (rows_of (tree_under (out-Node n).left)) (out-Node n).row.value (rows_of (tree_under (out-Node n).right)) i (e ∙ size_is (tree_under (out-Node n).left) balanced_left))

  pub place_left : (i : ℕ) → i < size_of (tree_under (out-Node n).left) → slice_get (rows_of (tree_under (out-Node n).left)) i ≡ slice_get (rows_of (tree_of n)) i
  place_left i h =
      sym (ap (λ rows. slice_get rows i) (rows_are n)
      ∙ in_front (rows_of (tree_under (out-Node n).left)) (out-Node n).row.value (rows_of (tree_under (out-Node n).right)) i
      (let e = size_is (tree_under (out-Node n).left) balanced_left in omega arith))

  pub place_right : (i j : ℕ) → i ≡ size_of (tree_under (out-Node n).left) + 1 + j → slice_get (rows_of (tree_under (out-Node n).right)) j ≡ slice_get (rows_of (tree_of n)) i
  place_right i j h =
      sym (ap (λ rows. slice_get rows i) (rows_are n)
      ∙ in_back (rows_of (tree_under (out-Node n).left)) (out-Node n).row.value (rows_of (tree_under (out-Node n).right)) i j
      (let e = size_is (tree_under (out-Node n).left) balanced_left in omega arith))
