use Rattle.group_quorum.proofs.Made.{made}
use Rattle.group_quorum.proofs.config.Config.voters.Goals as goal

pub returns-clause-made : goal.returns-clause-made
returns-clause-made c = rw (← c.self.view_is) (made _ c.self.invariant.sound)
