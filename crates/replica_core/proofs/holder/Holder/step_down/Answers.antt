use Rattle.std.proofs.Common.{◌≡◌, false, sym, ap, subst, ◌∙◌, arith}
use Rattle.group_quorum.specs.Voters.{is_in}
use Rattle.replica_model.specs.Send.{stepped_down}
use Rattle.replica_log.specs.Window.{last_index, conf_at, conf_index_at}
use Rattle.replica_log.specs.declared.configs.Configs.{Configs}
use Rattle.replica_core.specs.Standing.{HoldsFor}
use Rattle.replica_core.proofs.Sends.{stops-down, stays-voter, stays-pending, stays-following}
use Rattle.replica_core.specs.InRange.{IsHolderInRange}
use Rattle.replica_core.proofs.Ranged.{follow-in}
use Rattle.replica_core.proofs.holder.Holder.step_down.Goals as goal
use Rattle.replica_core.proofs.holder.Holder.step_down.Goals.{else-not-holds-via-then-not-holds+else-configs-committed, else-not-holds-via-else-not-holds}

pub returns-then-configs-committed-clause-model : goal.returns-then-configs-committed-clause-model
returns-then-configs-committed-clause-model c = λ s st.
    let h = c.args.self.now in
    let not_so : is_in (conf_at h.log (last_index h.log)).voters h.me ≡ false =
    ap (λ (k : Configs). is_in k.newest.voters h.me) (sym c.configs-configs.ensures) ∙ (sym c.holds.ensures ∙ c.if-not-holds.true) in
    let index : c.configs-configs.result.newest_index ≡ conf_index_at h.log (last_index h.log) = ap (λ (k : Configs). k.newest_index) c.configs-configs.ensures in
    let committed = c.committed.ensures.committed in
    let settled = c.if-configs-committed.true in
    subst (λ g. HoldsFor g (stepped_down s s.role)) (sym c.follow.ensures.after)
    (stops-down c.logs_are_the_models.ensures h s st (sym c.leads.ensures ∙ c.if-not-leads.false) not_so (omega (arith, index, committed, settled)))

pub returns-then-not-leads-clause-model : goal.returns-then-not-leads-clause-model
returns-then-not-leads-clause-model c = λ s st. stays-following c.logs_are_the_models.ensures c.args.self.now s st (sym c.leads.ensures ∙ c.if-not-leads.true)

pub returns-else-not-holds-clause-model : goal.returns-else-not-holds-clause-model
returns-else-not-holds-clause-model c = λ s st.
    let h = c.args.self.now in
    let index : c.configs-configs.result.newest_index ≡ conf_index_at h.log (last_index h.log) = ap (λ (k : Configs). k.newest_index) c.configs-configs.ensures in
    elim c.else-not-holds.branch [
      | else-not-holds-via-then-not-holds+else-configs-committed w ↦
          let committed = w.committed.ensures.committed in
          let pending = w.if-configs-committed.false in
          stays-pending c.logs_are_the_models.ensures h s st (omega (arith, index, committed, pending))
      | else-not-holds-via-else-not-holds w ↦
          stays-voter c.logs_are_the_models.ensures h s st (ap (λ (k : Configs). is_in k.newest.voters h.me) (sym c.configs-configs.ensures) ∙ (sym c.holds.ensures ∙ w.if-not-holds.false))
    ]

pub returns-then-configs-committed-clause-in_range : goal.returns-then-configs-committed-clause-in_range
returns-then-configs-committed-clause-in_range c = λ ranged.
    subst IsHolderInRange (sym c.follow.ensures.after) (follow-in c.args.self.now 0 ranged (omega arith))
