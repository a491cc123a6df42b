use Rattle.std.proofs.Common.{sym, ap, ◌∙◌}
use Rattle.replica_model.specs.Path.{Path, chain_from}
use Rattle.replica_model.specs.Linked.{sha_link}
use Rattle.replica_log.specs.Window.{Window}
use Rattle.replica_log.proofs.Chains.{at_index, nothing_upto}
use Rattle.replica_log.proofs.log.Log.hash_of.Goals as goal

pub returns-in-Some : goal.returns-in-Some
returns-in-Some c = (at_index sha_link c.args.self.now c.args.index c.in-Some.chained.now (sym c.in-Some.ensures)).hash

pub returns-in-None : goal.returns-in-None
returns-in-None c =
    let w : Window = c.args.self.now in
    ap (λ (v : Window). v.base.point.hash) c.self.view_is
    ∙ ap (λ (p : Path). chain_from sha_link w.base.point.hash w.base.point.index p) (sym (nothing_upto sha_link w c.args.index c.requires.last (sym c.in-None.ensures)))
