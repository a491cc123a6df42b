use Rattle.replica_model.proofs.Answered.{answered}
use Rattle.replica_model.proofs.steps_answer_their_tickets.Goals as goal

pub returns : goal.returns
returns c = answered
