use Rattle.std.proofs.Common.{arith}
use Rattle.attested_link.specs.Links.{is_linked}
use Rattle.attested_link.proofs.Taking.{found, only}
use Rattle.attested_link.proofs.links.Links.accept_frame.Goals as goal

pub returns-clause-found : goal.returns-clause-found
returns-clause-found c = found (λ p. (p.0, p.1.now)) (is_linked c.args.self.now) c.args.me c.args.frame.now c.accepted.result (λ i. omega (arith, c.type_inv.frame i)) c.accepted.ensures

pub returns-clause-only : goal.returns-clause-only
returns-clause-only c = only (λ p. (p.0, p.1.now)) (is_linked c.args.self.now) c.args.me c.args.frame.now c.accepted.result (omega arith) c.accepted.ensures
