-- A row that a tree has, written at a node of the tree.
use Rattle.std.proofs.Common.{◌≡◌, ℕ, ◌<◌, length, refl, sym, ap, subst, ◌∙◌, arith, length-append, ◌∷◌, ◌++◌}
use Rattle.std.specs.Prelude.{Option, IsSome}
use Rattle.std.specs.declared.rc.Rc.{Rc}
use Rattle.std.specs.declared.alloc.Global.{Global}
use Rattle.std.specs.declared.cmp.Ordering.TheVariants.{Less, Equal, Greater}
use Rattle.values.specs.declared.ids.ClientId.{ClientId}
use Rattle.values.specs.declared.row.Row.{Row}
use Rattle.record_table.specs.declared.change.Change.{Change}
use Rattle.record_table.specs.declared.node.Node.{Node}
use Rattle.record_table.specs.declared.node.Node.TheOpen.{Node-F}
use Rattle.record_table.specs.declared.node.Node.TheViews.{out-Node, roll-Node}
use Rattle.record_rules.specs.Clients.{client_cmp, IsNumberOf}
use Rattle.record_table.specs.Changes.{changed_row, kept_after}
use Rattle.record_rules.specs.Table.{row_of, kept_in, IsRising}
use Rattle.record_table.specs.Trees.{Tree, tree_of, tree_under, rows_of, IsBalanced, IsWrittenIn}
use Rattle.record_table.specs.Trees.Tree.{Fork}
use Rattle.record_table.proofs.SlotsLemmas.{below_by_number, same_by_number}
use Rattle.record_table.proofs.Nodes.{tree_out, tree_roll}
use Rattle.record_table.proofs.Around.{rising_front, rising_back, row_of-below, row_of-middle, row_of-above, put_row-below, put_row-middle, put_row-above}
use Rattle.record_table.proofs.Balanced.{size_is}
use Rattle.record_table.proofs.RowIn.{above_by_number, same_number}

pub as_long : (old : Tree) (row : Row) (new : Tree) → IsBalanced old → IsWrittenIn old row new → length (rows_of new) ≡ length (rows_of old)
as_long old row new b w = let a = size_is old b in let d = size_is new w.balanced in let e = w.size in omega arith

module _ (l t : Tree) (r row : Row) (s v : ℕ) (b : IsBalanced (Fork l r t s v)) (rising : IsRising (rows_of (Fork l r t s v))) where
  written_middle : client_cmp row.client r.client ≡ Equal → IsWrittenIn (Fork l r t s v) row (Fork l row t s v)
  written_middle same = record {
    rows = sym (put_row-middle (rows_of l) r (rows_of t) row rising same);
    balanced = b;
    size = refl;
    levels = refl;
  }

  written_left : (n : Tree) → client_cmp row.client r.client ≡ Less → IsWrittenIn l row n → IsWrittenIn (Fork l r t s v) row (Fork n r t s v)
  written_left n less w = record {
    rows = ap (λ rows. rows ++ r ∷ rows_of t) w.rows ∙ sym (put_row-below (rows_of l) r (rows_of t) row less);
    balanced = (
      record {
        sized = (let a = b.0.sized in let d = as_long l row n b.1 w in omega arith);
        high = (let a = b.0.high in let d = w.levels in omega arith);
        left_low = (let a = b.0.left_low in let d = w.levels in omega arith);
        right_low = (let a = b.0.right_low in let d = w.levels in omega arith);
      },
      w.balanced,
      b.2,
    );
    size = refl;
    levels = refl;
  }

  written_right : (n : Tree) → client_cmp row.client r.client ≡ Greater → IsWrittenIn t row n → IsWrittenIn (Fork l r t s v) row (Fork l r n s v)
  written_right n more w = record {
    rows = ap (λ rows. rows_of l ++ r ∷ rows) w.rows ∙ sym (put_row-above (rows_of l) r (rows_of t) row rising more);
    balanced = (
      record {
        sized = (let a = b.0.sized in let d = as_long t row n b.2 w in omega arith);
        high = (let a = b.0.high in let d = w.levels in omega arith);
        left_low = (let a = b.0.left_low in let d = w.levels in omega arith);
        right_low = (let a = b.0.right_low in let d = w.levels in omega arith);
      },
      b.1,
      w.balanced,
    );
    size = refl;
    levels = refl;
  }

-- what a tree must be of which a row is changed
pub record HasRow (tree : Tree) (client : ClientId) : Type 0 where
  pub balanced : IsBalanced tree
  pub rising : IsRising (rows_of tree)
  pub known : IsSome (row_of (rows_of tree) client)

-- the changed row as the one that was found makes it
abbrev changed_by : ClientId → ℕ → Change → Option Row → Row
changed_by client last change found = record { client = client; last = last; kept = kept_after change (kept_in found) }

module _ (n : Node) (client : ClientId) (number at last : ℕ) (change : Change) (mine : IsNumberOf client number) (other : IsNumberOf (out-Node n).row.value.client at)
    (has : HasRow (tree_of n) client) where
  abbrev left : Tree
  left = tree_under (out-Node n).left

  abbrev right : Tree
  right = tree_under (out-Node n).right

  abbrev middle : Row
  middle = (out-Node n).row.value

  abbrev fork_of : Tree
  fork_of = Fork (tree_under (out-Node n).left) (out-Node n).row.value (tree_under (out-Node n).right) (out-Node n).size (out-Node n).levels

  opened : HasRow (Fork (tree_under (out-Node n).left) (out-Node n).row.value (tree_under (out-Node n).right) (out-Node n).size (out-Node n).levels) client
  opened = subst (λ t. HasRow t client) (tree_out n) has

  less : number < at → client_cmp client middle.client ≡ Less
  less h = below_by_number client middle.client number at mine other h

  more : at < number → client_cmp client middle.client ≡ Greater
  more h = above_by_number client middle.client number at mine other h

  equal : number ≡ at → client_cmp client middle.client ≡ Equal
  equal h = same_number client middle.client number at mine other h

  found_left : number < at → row_of (rows_of fork_of) client ≡ row_of (rows_of left) client
  found_left h = row_of-below (rows_of left) middle (rows_of right) client opened.rising (less h)

  found_right : at < number → row_of (rows_of fork_of) client ≡ row_of (rows_of right) client
  found_right h = row_of-above (rows_of left) middle (rows_of right) client opened.rising (more h)

  pub has_left : number < at → HasRow left client
  has_left h = record {
    balanced = opened.balanced.1;
    rising = rising_front (rows_of left) (middle ∷ rows_of right) opened.rising;
    known = subst IsSome (found_left h) opened.known;
  }

  pub has_right : at < number → HasRow right client
  has_right h = record {
    balanced = opened.balanced.2;
    rising = rising_back (rows_of left) middle (rows_of right) opened.rising;
    known = subst IsSome (found_right h) opened.known;
  }

  pub shorter : (length (rows_of left) < length (rows_of (tree_of n))) × (length (rows_of right) < length (rows_of (tree_of n)))
  shorter =
      let e = ap (λ t. length (rows_of t)) (tree_out n) in
      let a = length-append (rows_of left) (middle ∷ rows_of right) in (omega arith, omega arith)

  closed : (row : Row) (whole : Tree) (new : Node-F Node) → tree_of (roll-Node new) ≡ whole
      → row ≡ changed_row (rows_of fork_of) client last change
      → IsWrittenIn fork_of row whole → IsWrittenIn (tree_of n) (changed_row (rows_of (tree_of n)) client last change) (tree_of (roll-Node new))
  closed row whole new is same w =
      subst (λ t. IsWrittenIn t (changed_row (rows_of t) client last change) (tree_of (roll-Node new))) (sym (tree_out n))
      (subst (IsWrittenIn fork_of (changed_row (rows_of fork_of) client last change)) (sym is) (subst (λ r. IsWrittenIn fork_of r whole) same w))

  pub write_left : (new : Option (Rc Node Global)) → number < at → IsWrittenIn left (changed_row (rows_of left) client last change) (tree_under new)
      → IsWrittenIn (tree_of n) (changed_row (rows_of (tree_of n)) client last change)
      (tree_of (roll-Node (record { left = new; row = (out-Node n).row; right = (out-Node n).right; size = (out-Node n).size; levels = (out-Node n).levels })))
  write_left new h w =
      closed (changed_row (rows_of left) client last change) (Fork (tree_under new) middle right (out-Node n).size (out-Node n).levels)
      (record { left = new; row = (out-Node n).row; right = (out-Node n).right; size = (out-Node n).size; levels = (out-Node n).levels })
      (tree_roll (record { left = new; row = (out-Node n).row; right = (out-Node n).right; size = (out-Node n).size; levels = (out-Node n).levels }))
      (ap (changed_by client last change) (sym (found_left h)))
      (written_left left right middle (changed_row (rows_of left) client last change) (out-Node n).size (out-Node n).levels opened.balanced opened.rising (tree_under new) (less h) w)

  pub write_right : (new : Option (Rc Node Global)) → at < number → IsWrittenIn right (changed_row (rows_of right) client last change) (tree_under new)
      → IsWrittenIn (tree_of n) (changed_row (rows_of (tree_of n)) client last change)
      (tree_of (roll-Node (record { left = (out-Node n).left; row = (out-Node n).row; right = new; size = (out-Node n).size; levels = (out-Node n).levels })))
  write_right new h w =
      closed (changed_row (rows_of right) client last change) (Fork left middle (tree_under new) (out-Node n).size (out-Node n).levels)
      (record { left = (out-Node n).left; row = (out-Node n).row; right = new; size = (out-Node n).size; levels = (out-Node n).levels })
      (tree_roll (record { left = (out-Node n).left; row = (out-Node n).row; right = new; size = (out-Node n).size; levels = (out-Node n).levels }))
      (ap (changed_by client last change) (sym (found_right h)))
      (written_right left right middle (changed_row (rows_of right) client last change) (out-Node n).size (out-Node n).levels opened.balanced opened.rising (tree_under new) (more h) w)

  pub write_middle : (new : Rc Row Global) → number ≡ at → new.value ≡ record middle { last = last; kept = kept_after change middle.kept }
      → IsWrittenIn (tree_of n) (changed_row (rows_of (tree_of n)) client last change)
      (tree_of (roll-Node (record { left = (out-Node n).left; row = new; right = (out-Node n).right; size = (out-Node n).size; levels = (out-Node n).levels })))
  write_middle new h is =
      let same : client ≡ middle.client = same_by_number client middle.client at (subst (IsNumberOf client) h mine) other in
      let there = row_of-middle (rows_of left) middle (rows_of right) client opened.rising (equal h) in
      let row_is : new.value ≡ changed_row (rows_of fork_of) client last change =
      is ∙ (λ i. record { client = sym same i; last = last; kept = kept_after change (kept_in (sym there i)) }) in
      closed new.value (Fork left new.value right (out-Node n).size (out-Node n).levels)
      (record { left = (out-Node n).left; row = new; right = (out-Node n).right; size = (out-Node n).size; levels = (out-Node n).levels })
      (tree_roll (record { left = (out-Node n).left; row = new; right = (out-Node n).right; size = (out-Node n).size; levels = (out-Node n).levels }))
      row_is
      (written_middle left right middle new.value (out-Node n).size (out-Node n).levels opened.balanced opened.rising
      (subst (λ (r : Row). client_cmp r.client middle.client ≡ Equal) (sym row_is) (equal h)))
