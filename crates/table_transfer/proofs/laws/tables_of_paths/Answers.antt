use Rattle.replica_model.specs.Folds.{fold_of, places_of}
use Rattle.table_transfer.proofs.laws.tables_of_paths.Goals as goal

pub returns-clause-limit : goal.returns-clause-limit
returns-clause-limit c limit path = (c.tables_are_bounded.ensures limit (places_of path)).limit_is

pub returns-clause-again : goal.returns-clause-again
returns-clause-again c limit path = c.rows_make_their_table.ensures limit (fold_of limit path) (c.tables_are_bounded.ensures limit (places_of path))
