use Rattle.std.proofs.Common.{sym, subst}
use Rattle.replica_core.specs.Standing.{StandsFor}
use Rattle.replica_core.proofs.DueAs.{due-as}
use Rattle.replica_core.proofs.replica.Replica.step.Goals as goal

pub returns-in-Ok-clause-due : goal.returns-in-Ok-clause-due
returns-in-Ok-clause-due c = λ s i st is.
    let before = c.self.inside.state in
    let stands : StandsFor before s = subst (λ x. StandsFor x s) (sym c.self.view_is) st in
    due-as c.logs_are_the_models.ensures s before c.self.invariant.0 stands i c.step.new.batch (c.in-Ok.ensures.model s i stands is).1
