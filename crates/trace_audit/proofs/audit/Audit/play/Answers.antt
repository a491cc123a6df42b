use Rattle.std.proofs.Common.{◌++◌, sym, ap, ◌∙◌, subst}
use Rattle.values.specs.declared.event.Event.{Event}
use Rattle.trace_model.specs.TraceLines as lines
use Rattle.trace_audit.specs.Bounds.{KeptBound, StandsBound}
use Rattle.trace_audit.specs.Stands.{Kept, IsPlayable}
use Rattle.trace_audit.specs.Steps.{confs_after, rolling_after}
use Rattle.trace_audit.proofs.Standing.{begin_bound, other_book, other_bound}
use Rattle.trace_audit.proofs.audit.Audit.play.Goals as goal

pub new-requires-clause-least : goal.new-requires-clause-least
new-requires-clause-least c = (subst (λ (e : Event). IsPlayable (lines.EventLine 0 e)) c.in-Begin.is (c.requires 0)).0

pub new-requires-clause-most : goal.new-requires-clause-most
new-requires-clause-most c = (subst (λ (e : Event). IsPlayable (lines.EventLine 0 e)) c.in-Begin.is (c.requires 0)).1

pub returns-in_ok-members-in-Begin-clause-bound : goal.returns-in_ok-members-in-Begin-clause-bound
returns-in_ok-members-in-Begin-clause-bound c = λ number confs rolled rolling s.
    let f = c.in-Begin in
    subst (λ (b : KeptBound). StandsBound b (confs_after confs (lines.EventLine number c.args.event)) (rolling ++ rolled) (rolling_after (lines.EventLine number c.args.event))) (sym (ap (λ (k : Kept). k.bound) c.self.view_is))
    (begin_bound c.members.new.self.bound number c.args.event f.margin f.limit f.voters c.as_slice.result.now confs (rolling ++ rolled) f.is c.as_slice.ensures
    (c.in_ok-members-in-Begin.ensures.bound confs rolled rolling s))

pub returns-in_default : goal.returns-in_default
returns-in_default c = record {
  stage = ap (λ (k : Kept). k.stage) c.self-in_default.view_is;
  book = ap (λ (k : Kept). k.book) c.self-in_default.view_is ∙ other_book c.args.self.now.book c.args.event c.in_default.not-Begin;
  bound = λ number confs rolled rolling s.
      other_bound c.settle.new.self number c.args.event confs (rolling ++ rolled) c.in_default.not-Begin c.in_default.not-Roll
      (c.settle.ensures confs rolled rolling
      (subst (λ (b : KeptBound). StandsBound b confs rolled rolling) (sym (ap (λ (k : Kept). k.bound) c.self-in_default.view_is)) s));
  err = tt;
}
