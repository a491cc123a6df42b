use Rattle.record_rules.proofs.Numbers.{numbers_rise}
use Rattle.record_rules.proofs.laws.numbers_rise.Goals as goal

pub returns : goal.returns
returns c = numbers_rise
