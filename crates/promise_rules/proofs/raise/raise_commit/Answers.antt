use Rattle.std.proofs.Common.{◌≡◌, ℕ, ◌≤◌, max, ap, subst, ◌∙◌, arith}
use Rattle.std.specs.Prelude.{None}
use Rattle.group_quorum.specs.Marks.{mark_of}
use Rattle.replica_model.specs.Linked.{sha_link}
use Rattle.replica_model.specs.Enough.{greatest_upto}
use Rattle.replica_log.specs.Window.{Window}
use Rattle.replica_log.specs.Models.{StandsFor}
use Rattle.promise_rules.specs.Raising.{passes}
use Rattle.promise_rules.proofs.raise.raise_commit.Goals as goal

pub returns-clause-model : goal.returns-clause-model
returns-clause-model c = λ s stands l same.
    let w : Window = c.args.log.now in
    let index : ℕ = c.greatest_enough-index.result in
    let had : c.committed-had.result ≡ w.committed = c.committed-had.ensures.committed in
    let greatest : index ≡ greatest_upto (passes w None (mark_of c.args.promises.now)) w.committed w.promised =
    c.greatest_enough-index.ensures.greatest ∙ ap (λ n. greatest_upto (passes w None (mark_of c.args.promises.now)) n c.promised.result) had
    ∙ ap (greatest_upto (passes w None (mark_of c.args.promises.now)) w.committed) c.promised.ensures.promised in
    let least : w.committed ≤ index = subst (λ n. n ≤ index) had c.greatest_enough-index.ensures.least in
    let higher : max s.committed index ≡ index = (let p = stands.is_committed in omega (arith, p, least)) in
    subst (λ n. StandsFor sha_link c.commit_to.new.self (record s { committed = n }))
    (higher ∙ greatest ∙ c.indices_by_marks_are_the_models.ensures.committed sha_link w c.committed-had.ensures.ordered s stands l c.args.promises.now same)
    (c.commit_to.ensures.model s stands)
