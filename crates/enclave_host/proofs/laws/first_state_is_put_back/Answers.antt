use Rattle.enclave_host.proofs.Saved.{first-back}
use Rattle.enclave_host.proofs.laws.first_state_is_put_back.Goals as goal

pub returns : goal.returns
returns c = first-back
