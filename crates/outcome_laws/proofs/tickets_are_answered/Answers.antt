use Rattle.outcome_laws.proofs.Events.{run_fair}
use Rattle.outcome_laws.proofs.tickets_are_answered.Goals as goal

pub returns : goal.returns
returns c = λ link events. (run_fair link events).due
