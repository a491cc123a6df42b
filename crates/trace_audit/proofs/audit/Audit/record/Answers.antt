use Rattle.std.proofs.Common.{sym, ap, ◌∙◌, subst}
use Rattle.trace_audit.specs.Bounds.{KeptBound, StandsBound}
use Rattle.trace_lines.specs.Meant.{meant}
use Rattle.trace_audit.specs.Stands.{Kept, StandsBook}
use Rattle.trace_lines.specs.declared.line.TraceLine.TheVariants as line
use Rattle.std.specs.Prelude.{Option}
use Rattle.trace_audit.specs.Books.{KeptBook}
use Rattle.trace_audit.specs.Steps.{setup_after, book_after}
use Rattle.trace_audit.proofs.Standing.{of_line, quiet_book, quiet_bound}
use Rattle.trace_audit.proofs.audit.Audit.record.Goals as goal

pub returns-in_ok-commit-in-Commit-clause-bound : goal.returns-in_ok-commit-in-Commit-clause-bound
returns-in_ok-commit-in-Commit-clause-bound c = λ confs rolled rolling s.
    let f = c.in-Commit in
    of_line c.settle.new.self (meant c.args.line) (meant (line.Commit f._replica f.index f.entry)) confs rolled rolling (ap meant f.is)
    (c.settle.ensures confs rolled rolling
    (subst (λ (b : KeptBound). StandsBound b confs rolled rolling) (sym (ap (λ (k : Kept). k.bound) c.self.view_is ∙ c.commit.ensures.bound)) s))

pub returns-in-Refused-clause-bound : goal.returns-in-Refused-clause-bound
returns-in-Refused-clause-bound c = λ confs rolled rolling s.
    of_line c.refuse.new.self (meant c.args.line) (meant line.Refused) confs rolled rolling (ap meant c.in-Refused.is)
    (c.refuse.ensures confs rolled rolling
    (subst (λ (b : KeptBound). StandsBound b confs rolled rolling) (sym (ap (λ (k : Kept). k.bound) c.self-in-Refused.view_is)) s))

pub returns-in_default : goal.returns-in_default
returns-in_default c = record {
  stage = ap (λ (k : Kept). k.stage) c.self-in_default.view_is;
  book = λ state s none.
      subst (λ (b : Option KeptBook). StandsBook b (setup_after state.setup (meant c.args.line)) (book_after state.book (meant c.args.line)))
      (sym (ap (λ (k : Kept). k.book) c.self-in_default.view_is))
      (quiet_book c.args.self.now.book state.setup state.book c.args.line c.in_default.not-Event c.in_default.not-Commit s);
  bound = λ confs rolled rolling s.
      quiet_bound c.settle-in_default.new.self c.args.line confs rolled rolling c.in_default.not-Event c.in_default.not-Members c.in_default.not-Refused
      (c.settle-in_default.ensures confs rolled rolling
      (subst (λ (b : KeptBound). StandsBound b confs rolled rolling) (sym (ap (λ (k : Kept). k.bound) c.self-in_default.view_is)) s));
  err = tt;
}
