use Rattle.std.proofs.Common.{Some, None, sym, ap, ◌∙◌}
use Rattle.std.proofs.lemmas.Bool.{cond-true}
use Rattle.replica_model.specs.Linked.{sha_link}
use Rattle.replica_log.specs.Window.{Window, is_kept, summary_at}
use Rattle.replica_log.proofs.Standing.{hash_at_model}
use Rattle.replica_log.proofs.log.Log.hash_at.Goals as goal

pub returns-then-keeps-clause-model : goal.returns-then-keeps-clause-model
returns-then-keeps-clause-model c s h =
    let w : Window = c.args.self.now in
    ap Some c.hash_of.ensures
    ∙ (sym (cond-true (is_kept w c.args.index) (Some (summary_at sha_link w c.args.index).point.hash) None (sym c.keeps.ensures.kept ∙ c.if-keeps.true))
    ∙ hash_at_model sha_link w s h c.args.index)
