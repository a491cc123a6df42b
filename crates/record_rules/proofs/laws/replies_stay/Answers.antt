use Rattle.record_rules.proofs.Prefixes.{replies_stay}
use Rattle.record_rules.proofs.laws.replies_stay.Goals as goal

pub returns : goal.returns
returns c = replies_stay
