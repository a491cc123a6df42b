use Rattle.std.proofs.Common.{ℕ, ◌≤◌, ◌<◌, sym, ap, ◌∙◌, subst, arith}
use Rattle.std.specs.List.{AllByRecursion}
use Rattle.replica_model.specs.Configs.{changed_by}
use Rattle.replica_model.specs.Linked.{sha_link}
use Rattle.replica_log.specs.Window.{Window, IsOrdered, Fits, base_index, entry_at}
use Rattle.replica_log.proofs.Chains.{at_index, at_base, conf_kept, conf_settled, fits_at}
use Rattle.replica_log.proofs.log.Log.config_of.Goals as goal

pub config_after-requires : goal.config_after-requires
config_after-requires c =
    let found = at_index sha_link c.args.self.now c.conf_index_of.result c.in-Some.chained.now (sym c.in-Some.ensures) in
    fits_at c.args.self.now c.conf_index_of.result c.in-Some.chained.now.entry
    (subst (λ (w : Window). AllByRecursion Fits w.entries) c.self.view_is c.self.invariant.fit) found.entry

pub returns-in-Some : goal.returns-in-Some
returns-in-Some c =
    let w : Window = c.args.self.now in
    let found = at_index sha_link w c.conf_index_of.result c.in-Some.chained.now (sym c.in-Some.ensures) in
    let low = (subst IsOrdered c.self.view_is c.self.invariant.ordered).conf_index in
    let is = c.conf_index_of.ensures.index in
    c.config_after.ensures
    ∙ ap (λ (v : Window). changed_by v.base.conf c.in-Some.chained.now.entry.body) c.self.view_is
    ∙ sym (conf_kept w c.args.index c.in-Some.chained.now.entry low
    (subst (λ (i : ℕ). base_index w < i) is found.above)
    (ap (entry_at w) (sym is) ∙ found.entry))

pub returns-in-None : goal.returns-in-None
returns-in-None c =
    let w : Window = c.args.self.now in
    let low = (subst IsOrdered c.self.view_is c.self.invariant.ordered).conf_index in
    let is = c.conf_index_of.ensures.index in
    let past = at_base sha_link w c.conf_index_of.result (let within = c.conf_index_of.ensures.within in let last = c.requires.last in omega arith) (sym c.in-None.ensures) in
    ap (λ (v : Window). v.base.conf) c.self.view_is
    ∙ sym (conf_settled w c.args.index low (subst (λ (i : ℕ). i ≤ base_index w) is past))
