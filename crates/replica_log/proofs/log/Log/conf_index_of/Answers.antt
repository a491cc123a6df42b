use Rattle.std.proofs.Common.{◌≡◌, ℕ, ◌≤◌, sym, ap, ◌∙◌, subst}
use Rattle.replica_model.specs.Path.{Path}
use Rattle.replica_model.specs.Configs.{conf_index_from}
use Rattle.replica_model.specs.Linked.{sha_link}
use Rattle.replica_log.specs.Window.{Window, IsOrdered, conf_index_at}
use Rattle.replica_log.proofs.Chains.{at_index, nothing_upto, conf_index_within}
use Rattle.replica_log.proofs.log.Log.conf_index_of.Goals as goal
use Rattle.replica_log.proofs.log.Log.conf_index_of.Goals.{In-Some}

here : (c : In-Some) → c.in-Some.chained.now.conf_index ≡ conf_index_at c.args.self.now c.args.index
here c = (at_index sha_link c.args.self.now c.args.index c.in-Some.chained.now (sym c.in-Some.ensures)).conf_index

pub returns-in-Some-clause-index : goal.returns-in-Some-clause-index
returns-in-Some-clause-index c = here c

pub returns-in-Some-clause-within : goal.returns-in-Some-clause-within
returns-in-Some-clause-within c =
    let low = (subst IsOrdered c.self.view_is c.self.invariant.ordered).conf_index in
    subst (λ (i : ℕ). i ≤ c.args.index) (sym (here c)) (conf_index_within c.args.self.now c.args.index low c.requires.base)

pub returns-in-None-clause-index : goal.returns-in-None-clause-index
returns-in-None-clause-index c =
    let w : Window = c.args.self.now in
    ap (λ (v : Window). v.base.conf_index) c.self.view_is
    ∙ ap (λ (p : Path). conf_index_from w.base.conf_index w.base.point.index p) (sym (nothing_upto sha_link w c.args.index c.requires.last (sym c.in-None.ensures)))
