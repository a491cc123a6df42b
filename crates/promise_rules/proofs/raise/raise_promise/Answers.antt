use Rattle.std.proofs.Common.{◌≡◌, ℕ, ◌≤◌, max, sym, ap, subst, ◌∙◌, arith}
use Rattle.std.specs.Prelude.{Some}
use Rattle.group_quorum.specs.Marks.{mark_of}
use Rattle.replica_model.specs.Linked.{sha_link}
use Rattle.replica_model.specs.Enough.{greatest_upto}
use Rattle.replica_model.specs.Raise.{promise_index}
use Rattle.replica_log.specs.Window.{Window, last_index}
use Rattle.replica_log.specs.Models.{StandsFor}
use Rattle.promise_rules.specs.Raising.{passes, promised_by}
use Rattle.promise_rules.proofs.raise.raise_promise.Goals as goal

pub returns-clause-model : goal.returns-clause-model
returns-clause-model c = λ s stands l is same.
    let w : Window = c.args.log.now in
    let index : ℕ = c.greatest_enough-index.result in
    let had : c.promised-had.result ≡ w.promised = c.promised-had.ensures.promised in
    let greatest : index ≡ greatest_upto (passes w (Some c.args.term) (mark_of c.args.marks.now)) w.promised (last_index w) =
    c.greatest_enough-index.ensures.greatest ∙ ap (λ n. greatest_upto (passes w (Some c.args.term) (mark_of c.args.marks.now)) n c.last.result.index) had
    ∙ ap (λ p. greatest_upto (passes w (Some c.args.term) (mark_of c.args.marks.now)) w.promised p.index) c.last.ensures.last in
    let least : w.promised ≤ index = subst (λ n. n ≤ index) had c.greatest_enough-index.ensures.least in
    let by_marks : promised_by w c.args.term c.args.marks.now ≡ promise_index s l =
    ap (λ t. promised_by w t c.args.marks.now) (sym is)
    ∙ c.indices_by_marks_are_the_models.ensures.promised sha_link w c.promised-had.ensures.ordered s stands l c.args.marks.now same in
    let higher : max s.promised index ≡ index = (let p = stands.is_promised in omega (arith, p, least)) in
    subst (λ n. StandsFor sha_link c.promise_to.new.self (record s { promised = n }))
    (higher ∙ greatest ∙ by_marks)
    (c.promise_to.ensures.model s stands)
