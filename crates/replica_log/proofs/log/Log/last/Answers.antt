use Rattle.std.proofs.Common.{ℕ, ap, ◌∙◌}
use Rattle.values.specs.declared.entry.Hash.{Hash}
use Rattle.values.specs.declared.entry.Point.{Point}
use Rattle.replica_model.specs.Linked.{sha_link}
use Rattle.replica_log.specs.Window.{Window}
use Rattle.replica_log.specs.Grafting.{point_at}
use Rattle.replica_log.proofs.Chains.{last_point_is}
use Rattle.replica_log.proofs.Standing.{last_model}
use Rattle.replica_log.proofs.log.Log.last.Goals as goal

pub returns-clause-model : goal.returns-clause-model
returns-clause-model c s h =
    let w : Window = c.args.self.now in
    let at : ℕ → Hash → Point = λ n k. record { index = n; hash = k } in
    ap (at c.last_index-index.result) c.hash_of.ensures
    ∙ (ap (point_at sha_link w) c.last_index-index.ensures.last
    ∙ (last_point_is sha_link w ∙ last_model sha_link w s h))
