use Rattle.std.proofs.Common.{◌∷◌, sym, ap, subst}
use Rattle.trace_audit.specs.Bounds.{KeptBound, StandsBound}
use Rattle.trace_audit.specs.Stands.{Kept}
use Rattle.trace_audit.proofs.audit.Audit.members.Goals as goal

pub returns-clause-bound : goal.returns-clause-bound
returns-clause-bound c = λ confs rolled rolling s.
    c.settle.ensures (record { margin = c.args.margin; voters = c.args.voters.now } ∷ confs) rolled rolling
    (c.in_ok-members.ensures.ok confs rolled rolling
    (subst (λ (b : KeptBound). StandsBound b confs rolled rolling) (sym (ap (λ (k : Kept). k.bound) c.self.view_is)) s))
