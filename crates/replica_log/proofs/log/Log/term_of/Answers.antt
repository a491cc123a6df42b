use Rattle.std.proofs.Common.{◌≡◌, sym, ap, ◌∙◌, arith}
use Rattle.replica_model.specs.Path.{Path}
use Rattle.replica_model.specs.Linked.{sha_link}
use Rattle.replica_log.specs.Window.{Window, term_from, base_index}
use Rattle.replica_log.proofs.Chains.{at_index, nothing_upto}
use Rattle.replica_log.proofs.log.Log.term_of.Goals as goal

pub returns-in-Some-clause-zero : goal.returns-in-Some-clause-zero
returns-in-Some-clause-zero c = λ zero.
    let above = (at_index sha_link c.args.self.now c.args.index c.in-Some.chained.now (sym c.in-Some.ensures)).above in
    absurd (omega (arith, zero, above))

pub returns-in-Some-clause-term : goal.returns-in-Some-clause-term
returns-in-Some-clause-term c = (at_index sha_link c.args.self.now c.args.index c.in-Some.chained.now (sym c.in-Some.ensures)).term

pub returns-in-None-clause-zero : goal.returns-in-None-clause-zero
returns-in-None-clause-zero c = λ zero.
    let base = c.requires.base in
    let same : c.self.inside.base.index ≡ base_index c.args.self.now = ap (λ (v : Window). base_index v) c.self.view_is in
    c.self.invariant.no_term (omega (arith, zero, base, same))

pub returns-in-None-clause-term : goal.returns-in-None-clause-term
returns-in-None-clause-term c =
    let w : Window = c.args.self.now in
    ap (λ (v : Window). v.base.term) c.self.view_is
    ∙ ap (λ (p : Path). term_from w.base.term p) (sym (nothing_upto sha_link w c.args.index c.requires.last (sym c.in-None.ensures)))
