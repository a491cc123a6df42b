-- A row that a tree does not have, at a node of the tree.
use Rattle.std.proofs.Common.{◌≡◌, ℕ, ◌+◌, ◌<◌, ◌≤◌, length, refl, sym, ap, subst, ◌∙◌, arith, length-append, ◌∷◌, ◌++◌, inl, inr}
use Rattle.std.specs.Prelude.{Option, Some, None, IsNone, Result, Ok, Err, OnOk}
use Rattle.std.specs.declared.rc.Rc.{Rc}
use Rattle.std.specs.declared.alloc.Global.{Global}
use Rattle.std.specs.declared.cmp.Ordering.TheVariants.{Less, Equal, Greater}
use Rattle.std.proofs.lemmas.Bool.{cases_order}
use Rattle.values.specs.declared.ids.ClientId.{ClientId}
use Rattle.values.specs.declared.row.Row.{Row}
use Rattle.record_table.specs.declared.node.Node.{Node}
use Rattle.record_table.specs.declared.node.Node.TheViews.{out-Node}
use Rattle.values.specs.declared.limits.TheConstants.{MOST_ROWS}
use Rattle.record_rules.specs.Clients.{client_cmp, IsNumberOf}
use Rattle.record_rules.specs.Table.{row_of}
use Rattle.record_table.specs.Trees.{Tree, tree_of, tree_under, rows_of, IsReady}
use Rattle.record_table.specs.Trees.Tree.{Fork}
use Rattle.record_rules.proofs.Clients.{client_cmp-self, flip}
use Rattle.record_table.proofs.SlotsLemmas.{below_by_number, same_by_number}
use Rattle.record_table.proofs.Nodes.{tree_out}
use Rattle.record_table.proofs.Around.{rising_front, rising_back, row_of-below, row_of-middle, row_of-above}

pub none_is : (o : Option Row) → IsNone o → o ≡ None
none_is None h = refl
none_is (Some row) h = absurd cc

-- what follows from what a result holds
pub followed : {X E : Type 0} (r : Result X E) (P Q : Type 0) → (P → Q) → OnOk r P → OnOk r Q
followed (Ok x) P Q f h = f h
followed (Err e) P Q f h = tt

pub above_by_number : (a b : ClientId) (m n : ℕ) → IsNumberOf a m → IsNumberOf b n → n < m → client_cmp a b ≡ Greater
above_by_number a b m n is_a is_b more = flip b a Less (below_by_number b a n m is_b is_a more)

pub same_number : (a b : ClientId) (m n : ℕ) → IsNumberOf a m → IsNumberOf b n → m ≡ n → client_cmp a b ≡ Equal
same_number a b m n is_a is_b same =
    subst (λ c. client_cmp a c ≡ Equal) (same_by_number a b n (subst (IsNumberOf a) same is_a) is_b) (client_cmp-self a)

module _ (l t : Tree) (r row : Row) (s v : ℕ) (ready : IsReady (Fork l r t s v) row.client) where
  many : length (rows_of l) + length (rows_of t) + 1 < MOST_ROWS
  many = let few = ready.few in let a = length-append (rows_of l) (r ∷ rows_of t) in omega arith

  pub ready_left : client_cmp row.client r.client ≡ Less → IsReady l row.client
  ready_left less = record {
    balanced = ready.balanced.1;
    rising = rising_front (rows_of l) (r ∷ rows_of t) ready.rising;
    unknown = subst IsNone (row_of-below (rows_of l) r (rows_of t) row.client ready.rising less) ready.unknown;
    few = let m = many in omega arith;
  }

  pub ready_right : client_cmp row.client r.client ≡ Greater → IsReady t row.client
  ready_right more = record {
    balanced = ready.balanced.2;
    rising = rising_back (rows_of l) r (rows_of t) ready.rising;
    unknown = subst IsNone (row_of-above (rows_of l) r (rows_of t) row.client ready.rising more) ready.unknown;
    few = let m = many in omega arith;
  }

  above : (m n : ℕ) → IsNumberOf row.client m → IsNumberOf r.client n → n ≤ m → client_cmp row.client r.client ≡ Greater
  above m n mine other low =
      elim (cases_order m n) [
        | inl same ↦
            absurd (let some = row_of-middle (rows_of l) r (rows_of t) row.client ready.rising (same_number row.client r.client m n mine other same) in
            let none = none_is (row_of (rows_of l ++ r ∷ rows_of t) row.client) ready.unknown in cc)
        | inr (inl less) ↦ absurd (omega arith)
        | inr (inr more) ↦ above_by_number row.client r.client m n mine other more
      ]

-- ---- the same at a node

pub whole_at : (link : Option (Rc Node Global)) (rc : Rc Node Global) (n : Node) → link ≡ Some rc → n ≡ rc.value → tree_under link ≡ tree_of n
whole_at link rc n is same = ap tree_under is ∙ ap tree_of (sym same)

pub number_at : (n : Node) (r : Row) (at : ℕ) → r ≡ (out-Node n).row.value → IsNumberOf r.client at → IsNumberOf (out-Node n).row.value.client at
number_at n r at same is = subst (λ (q : Row). IsNumberOf q.client at) same is

module _ (n : Node) (row : Row) (number at : ℕ) (mine : IsNumberOf row.client number) (other : IsNumberOf (out-Node n).row.value.client at)
    (ready : IsReady (tree_of n) row.client) where
  abbrev left : Tree
  left = tree_under (out-Node n).left

  abbrev right : Tree
  right = tree_under (out-Node n).right

  pub opened : IsReady (Fork left (out-Node n).row.value right (out-Node n).size (out-Node n).levels) row.client
  opened = subst (λ t. IsReady t row.client) (tree_out n) ready

  pub less : number < at → client_cmp row.client (out-Node n).row.value.client ≡ Less
  less h = below_by_number row.client (out-Node n).row.value.client number at mine other h

  pub more : at ≤ number → client_cmp row.client (out-Node n).row.value.client ≡ Greater
  more h = above left right (out-Node n).row.value row (out-Node n).size (out-Node n).levels opened number at mine other h
