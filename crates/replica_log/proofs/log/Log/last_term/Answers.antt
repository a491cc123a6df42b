use Rattle.std.proofs.Common.{ap, ◌∙◌}
use Rattle.replica_model.specs.Linked.{sha_link}
use Rattle.replica_log.specs.Window.{Window, term_from, upto}
use Rattle.replica_log.proofs.Standing.{last_term_model}
use Rattle.replica_log.proofs.Chains.{upto_last}
use Rattle.replica_log.proofs.log.Log.last_term.Goals as goal

pub returns-clause-model : goal.returns-clause-model
returns-clause-model c s h =
    let w : Window = c.args.self.now in
    c.term_of.ensures.term
    ∙ (ap (λ p. term_from w.base.term p) (ap (upto w) c.last_index.ensures.last ∙ upto_last w)
    ∙ last_term_model sha_link w s h)
