use Rattle.std.proofs.Common.{arith}
use Rattle.host_msgs.proofs.Taken.{found}
use Rattle.host_msgs.proofs.read.read_batch.Goals as goal

pub returns-clause-found : goal.returns-clause-found
returns-clause-found c = found c.args.content.now c.read_items.result (λ i. omega (arith, c.type_inv.content i)) c.read_items.ensures
