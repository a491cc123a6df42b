use Rattle.host_inputs.proofs.Said.{read_again}
use Rattle.host_inputs.proofs.laws.inputs_are_read_again.Goals as goal

pub returns : goal.returns
returns c = read_again
