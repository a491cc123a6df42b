use Rattle.record_rules.proofs.Earned.{guesses_end}
use Rattle.record_rules.proofs.laws.guesses_end.Goals as goal

pub returns : goal.returns
returns c = guesses_end
