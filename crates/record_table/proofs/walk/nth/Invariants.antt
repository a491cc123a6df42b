use Rattle.std.proofs.Common.{◌≡◌}
use Rattle.std.specs.Prelude.{slice_get}
use Rattle.record_table.specs.Trees.{tree_under, rows_of, IsBalanced}
use Rattle.record_table.proofs.walk.nth.Given as goal

abbrev pub invariant-loop-link : goal.invariant-loop-link
invariant-loop-link l = record {
  balanced : IsBalanced (tree_under l.link);
  same : slice_get (rows_of (tree_under l.link)) l.rest ≡ slice_get (rows_of (tree_under l.tree)) l.place;
}
