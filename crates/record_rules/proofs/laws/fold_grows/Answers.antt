use Rattle.record_rules.proofs.Prefixes.{last_reply}
use Rattle.record_rules.proofs.laws.fold_grows.Goals as goal

pub returns-clause-reply : goal.returns-clause-reply
returns-clause-reply c = last_reply
