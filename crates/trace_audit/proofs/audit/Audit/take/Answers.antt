use Rattle.std.proofs.Common.{sym, ap, ◌∙◌, subst}
use Rattle.trace_model.specs.Audit.{Stage}
use Rattle.trace_audit.specs.Books.{KeptBook}
use Rattle.trace_audit.specs.Bounds.{KeptBound, StandsBound}
use Rattle.trace_lines.specs.Meant.{meant}
use Rattle.trace_audit.specs.Stands.{Kept, StandsBook}
use Rattle.std.specs.Prelude.{Option}
use Rattle.trace_audit.specs.Steps.{stage_after, setup_after, book_after, confs_after, rolled_after, rolling_after}
use Rattle.trace_audit.proofs.audit.Audit.take.Goals as goal

pub returns-clause-ok : goal.returns-clause-ok
returns-clause-ok c = λ state s none.
    let said = meant c.args.line in
    record {
      stage = c.after-stage.ensures ∙ ap (λ (g : Stage). stage_after g said) (ap (λ (k : Kept). k.stage) c.self.view_is ∙ s.stage);
      book = subst (λ (b : Option KeptBook). StandsBook b (setup_after state.setup said) (book_after state.book said)) (sym (ap (λ (k : Kept). k.book) c.self-2.view_is))
          (c.in_ok-record.ensures.book state s.book none);
      bound = subst (λ (b : KeptBound). StandsBound b (confs_after state.confs said) (rolled_after state.rolling state.rolled said) (rolling_after said))
          (sym (ap (λ (k : Kept). k.bound) c.self-2.view_is)) (c.in_ok-record.ensures.bound state.confs state.rolled state.rolling s.bound);
    }
