use Rattle.replica_model.proofs.Bodies.{tell}
use Rattle.replica_model.proofs.bytes_tell_bodies.Goals as goal

pub returns : goal.returns
returns c = tell
