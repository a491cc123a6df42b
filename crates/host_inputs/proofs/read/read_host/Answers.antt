use Rattle.std.proofs.Common.{arith}
use Rattle.host_inputs.proofs.Said.{found, only}
use Rattle.host_inputs.proofs.read.read_host.Goals as goal

pub returns-clause-found : goal.returns-clause-found
returns-clause-found c = found c.args.content.now c.read.result (λ i. omega (arith, c.type_inv.content i)) c.read.ensures.reads

pub returns-clause-only : goal.returns-clause-only
returns-clause-only c = only c.args.content.now c.read.result c.read.ensures.reads
