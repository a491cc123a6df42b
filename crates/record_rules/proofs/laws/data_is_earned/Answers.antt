use Rattle.record_rules.proofs.Earned.{data_is_earned}
use Rattle.record_rules.proofs.laws.data_is_earned.Goals as goal

pub returns : goal.returns
returns c = data_is_earned
