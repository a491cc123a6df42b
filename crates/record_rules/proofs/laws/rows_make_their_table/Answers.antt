use Rattle.record_rules.proofs.Tables.{made_again}
use Rattle.record_rules.proofs.laws.rows_make_their_table.Goals as goal

pub returns : goal.returns
returns c = made_again
