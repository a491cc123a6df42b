use Rattle.model_rows.proofs.Unaccepted.{long_wants}
use Rattle.model_rows.proofs.broken.long_wants_are_refused.Goals as goal

pub returns : goal.returns
returns c = long_wants
