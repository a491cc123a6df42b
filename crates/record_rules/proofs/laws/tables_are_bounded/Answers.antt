use Rattle.record_rules.proofs.Tables.{bounded}
use Rattle.record_rules.proofs.laws.tables_are_bounded.Goals as goal

pub returns : goal.returns
returns c = bounded
