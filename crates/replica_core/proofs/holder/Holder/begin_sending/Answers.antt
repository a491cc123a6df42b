use Rattle.std.proofs.Common.{ℕ, take, sym, subst, ◌∙◌}
use Rattle.values.specs.declared.entry.Point.{Point}
use Rattle.record_rules.specs.Table.{RecordTable}
use Rattle.replica_model.specs.Replica as model
use Rattle.replica_log.specs.declared.configs.Configs.{Configs}
use Rattle.table_transfer.specs.SentTable.{begun}
use Rattle.replica_core.specs.declared.holder.Holder.{Holder}
use Rattle.replica_core.specs.Standing.{SendsAs}
use Rattle.replica_core.proofs.Changes.{begun-as}
use Rattle.replica_core.specs.InRange.{IsSendingInRange}
use Rattle.replica_core.proofs.Handed.{begun-in}
use Rattle.replica_core.proofs.holder.Holder.begin_sending.Goals as goal

pub returns-clause-model : goal.returns-clause-model
returns-clause-model c = λ s st.
    let h : Holder = c.args.self.now in
    let index : ℕ = c.committed-index.result in
    let term : ℕ = c.in-Some-Some.last_term in
    let configs : Configs = c.configs_to-configs.result in
    let point : Point = record { index = index; hash = c.in-Some-Some.hash } in
    let path : model.Sending = record { path = take s.committed s.path; part = 0 } in
    subst (λ k. SendsAs s.limit s.first k path) (sym c.new.ensures)
    (subst (λ (t : RecordTable). SendsAs s.limit s.first (begun point term configs.newest configs.newest_index t) path) (sym c.in_ok-copy.ensures)
    (begun-as c.logs_are_the_models.ensures h s st c.committed-index.ensures.ordered index c.committed-index.ensures.committed
    c.in-Some-Some.hash (sym c.in-Some-Some.is-0 ∙ c.hash_at.ensures.model s st.log)
    term (sym c.in-Some-Some.is-1 ∙ c.term_at.ensures.model s st.log)
    configs (c.configs_to-configs.ensures.model s st.log)))

pub returns-clause-in_range : goal.returns-clause-in_range
returns-clause-in_range c = λ ranged.
    let h : Holder = c.args.self.now in
    let index : ℕ = c.committed-index.result in
    let term : ℕ = c.in-Some-Some.last_term in
    let configs : Configs = c.configs_to-configs.result in
    subst IsSendingInRange (sym c.new.ensures)
    (begun-in h ranged c.committed-index.ensures.ordered index c.committed-index.ensures.committed c.in-Some-Some.hash term (sym c.in-Some-Some.is-1 ∙ c.term_at.ensures.term)
    configs c.configs_to-configs.ensures.configs c.configs_to-configs.ensures.within c.in_ok-copy.field-0)
