use Rattle.std.proofs.Common.{rules, ap, ◌∙◌}
use Rattle.std.proofs.lemmas.Fn.{filter_same}
use Rattle.replica_model.specs.Keyed.{without}
use Rattle.replica_core.proofs.by_replica.ByReplica.remove.Goals as goal

pub returns : goal.returns
returns g c = filter_same _ _ _ (λ x b f' k. search rules) _ _ c.retain.ensures.filtered ∙ ap (λ xs. without xs c.args.id) c.self.view_is
