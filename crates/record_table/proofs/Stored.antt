-- Trees of rows stay trees of rows.
use Rattle.std.proofs.Common.{◌≡◌, ◌<◌, length, sym, ap, subst, arith}
use Rattle.std.specs.Prelude.{IsNone, Result, Ok, Err, OnOk, OnErr}
use Rattle.values.specs.declared.row.Row.{Row}
use Rattle.values.specs.declared.limits.TheConstants.{MOST_ROWS}
use Rattle.record_rules.specs.Table.{row_of, IsRising}
use Rattle.record_table.specs.Trees.{Tree, rows_of, IsTree, IsPutIn, IsWrittenIn}
use Rattle.record_rules.proofs.Placed.{IsRising-put}
use Rattle.record_table.proofs.Around.{length-put_new}
use Rattle.record_table.proofs.RowIn.{none_is}
use Rattle.record_table.proofs.WrittenIn.{as_long}

written_tree : (old : Tree) (row : Row) (new : Tree) → IsTree old → IsWrittenIn old row new → IsTree new
written_tree old row new tree w = record {
  balanced = w.balanced;
  rising = subst IsRising (sym w.rows) (IsRising-put (rows_of old) row tree.rising);
  few = (let long = as_long old row new tree.balanced w in let few = tree.few in omega arith);
}

pub changed_tree : {X E : Type 0} (r : Result X E) (old : Tree) (row : Row) (new : Tree) → IsTree old → OnOk r (IsWrittenIn old row new) → OnErr r (new ≡ old) → IsTree new
changed_tree (Ok x) old row new tree ok err = written_tree old row new tree ok
changed_tree (Err e) old row new tree ok err = subst IsTree (sym err) tree

new_tree : (old : Tree) (row : Row) (new : Tree) → IsTree old → IsPutIn old row new → IsNone (row_of (rows_of old) row.client) → length (rows_of old) < MOST_ROWS → IsTree new
new_tree old row new tree put unknown room = record {
  balanced = put.balanced;
  rising = subst IsRising (sym put.rows) (IsRising-put (rows_of old) row tree.rising);
  few =
      let long = ap length put.rows in
      let more = length-put_new (rows_of old) row (none_is (row_of (rows_of old) row.client) unknown) in
      omega arith;
}

pub added_tree : {X E : Type 0} (r : Result X E) (old : Tree) (row : Row) (new : Tree) → IsTree old → length (rows_of old) < MOST_ROWS → IsNone (row_of (rows_of old) row.client)
    → OnOk r (IsPutIn old row new) → OnErr r (new ≡ old) → IsTree new
added_tree (Ok x) old row new tree few unknown ok err = new_tree old row new tree ok unknown few
added_tree (Err e) old row new tree few unknown ok err = subst IsTree (sym err) tree
