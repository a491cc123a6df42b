use Rattle.group_model.specs.Enclave.{Save, called}
use Rattle.replica_model.specs.Linked.{sha_link}
use Rattle.enclave_host.proofs.Saved.{put-back, saved-under}
use Rattle.enclave_host.proofs.laws.saved_states_are_put_back.Goals as goal

pub returns : goal.returns
returns c = λ e k later is. put-back k e.replica later (called sha_link e Save).enclave (saved-under k e is)
