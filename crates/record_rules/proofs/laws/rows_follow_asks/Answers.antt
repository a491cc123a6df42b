use Rattle.record_rules.proofs.RowsFollow.{rows_are_put, rows_stay}
use Rattle.record_rules.proofs.laws.rows_follow_asks.Goals as goal

pub returns-clause-put : goal.returns-clause-put
returns-clause-put c = rows_are_put

pub returns-clause-stay : goal.returns-clause-stay
returns-clause-stay c = rows_stay
