use Rattle.std.proofs.Common.{◌≡◌}
use Rattle.record_rules.specs.Table.{row_of, IsRising}
use Rattle.record_table.specs.Trees.{tree_under, rows_of}
use Rattle.record_table.proofs.walk.find.Given as goal

abbrev pub invariant-loop-link : goal.invariant-loop-link
invariant-loop-link l = record {
  rising : IsRising (rows_of (tree_under l.link));
  same : row_of (rows_of (tree_under l.link)) l.client ≡ row_of (rows_of (tree_under l.tree)) l.client;
}
