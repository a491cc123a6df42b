use Rattle.std.proofs.Common.{◌≡◌, ◌-◌, max, ap, subst, ◌∙◌, sym}
use Rattle.replica_model.specs.declared.TheConstants.{KEPT_BELOW}
use Rattle.replica_model.specs.Linked.{sha_link}
use Rattle.replica_log.specs.Models.{StandsFor as LogStandsFor}
use Rattle.replica_core.proofs.Sends.{moves-base}
use Rattle.replica_log.specs.Window.{Window}
use Rattle.replica_core.specs.InRange.{IsHolderInRange}
use Rattle.replica_core.proofs.Ranged.{dropped-in}
use Rattle.replica_core.proofs.holder.Holder.move_base.Goals as goal

pub returns-clause-model : goal.returns-clause-model
returns-clause-model c = λ s st.
    let index : c.saturating_sub.result ≡ s.committed - KEPT_BELOW =
    c.saturating_sub.ensures ∙ ap (λ n. n - KEPT_BELOW) (c.committed-committed.ensures.committed ∙ st.log.is_committed) in
    moves-base c.args.self.now c.drop_below.new.self s (max s.base (s.committed - KEPT_BELOW)) st
    (subst (λ n. LogStandsFor sha_link c.drop_below.new.self (record s { base = max s.base n })) index (c.drop_below.ensures.model s st.log))

pub returns-clause-in_range : goal.returns-clause-in_range
returns-clause-in_range c = λ ranged.
    subst (λ (w : Window). IsHolderInRange (record (c.args.self.now) { log = w })) (sym c.drop_below.ensures.window) (dropped-in c.args.self.now c.saturating_sub.result ranged)
