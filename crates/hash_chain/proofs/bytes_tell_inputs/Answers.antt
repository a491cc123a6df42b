use Rattle.hash_chain.proofs.Telling.{tell}
use Rattle.hash_chain.proofs.bytes_tell_inputs.Goals as goal

pub returns : goal.returns
returns c = tell
