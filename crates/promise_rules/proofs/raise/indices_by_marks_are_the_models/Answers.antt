use Rattle.promise_rules.proofs.Standing.{promise_model, commit_model}
use Rattle.promise_rules.proofs.raise.indices_by_marks_are_the_models.Goals as goal

pub returns-clause-promised : goal.returns-clause-promised
returns-clause-promised c = promise_model c.voters_decide.ensures c.voters_counted_are.ensures c.indices_are_the_models.ensures c.terms_are_the_models.ensures c.configs_are_the_models.ensures

pub returns-clause-committed : goal.returns-clause-committed
returns-clause-committed c = commit_model c.voters_decide.ensures c.voters_counted_are.ensures c.indices_are_the_models.ensures c.terms_are_the_models.ensures c.configs_are_the_models.ensures
