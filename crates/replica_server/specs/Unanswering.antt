-- A call's fault as the answer to a frame tells it.
use Rattle.enclave_host.specs.declared.enclave.EnclaveFault.{EnclaveFault}
use Rattle.enclave_host.specs.declared.enclave.EnclaveFault.TheVariants as enclave
use Rattle.replica_server.specs.declared.answer.Unanswered.{Unanswered}
use Rattle.replica_server.specs.declared.answer.Unanswered.TheVariants.{Memory, Content, NotBegun, BegunAgain}

abbrev pub of_fault : EnclaveFault → Unanswered
of_fault enclave.Memory = Memory
of_fault enclave.Spent = Memory
of_fault (enclave.Frame fault) = Content fault
of_fault enclave.NotBegun = NotBegun
of_fault enclave.BegunAgain = BegunAgain
