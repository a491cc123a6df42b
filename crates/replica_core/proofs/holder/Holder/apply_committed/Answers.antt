use Rattle.std.proofs.Common.{◌≡◌, ℕ, ◌+◌, ◌<◌, ◌≤◌, IfSome, sym, ap, subst, ◌∙◌, arith}
use Rattle.values.specs.declared.batch.Batch.{Batch}
use Rattle.replica_model.specs.Path.{Path}
use Rattle.replica_model.specs.Raise.{numbered_from}
use Rattle.replica_log.specs.Window.{base_index, last_index, entry_at}
use Rattle.replica_core.specs.declared.holder.Holder.{Holder}
use Rattle.replica_core.specs.Applying.{Applied, applied_one, applied_all, before_applied, holder_applied, batch_applied}
use Rattle.replica_core.proofs.Entries.{Next, next_entry, none_between, applied_upto, applied-next}
use Rattle.replica_core.proofs.holder.Holder.apply_committed.Goals as goal
use Rattle.replica_core.proofs.holder.Holder.apply_committed.Goals.{After-loop-index}

begun : (h : Holder) (b : Batch) (had : ℕ) → before_applied h b ≡ applied_upto h b had had
begun h b had = ap (λ (p : Path). applied_all (before_applied h b) (numbered_from (had + 1) p)) (sym (none_between h.log had))

pub loop-index-init : goal.loop-index-init
loop-index-init c = record {
  self = ap (holder_applied c.args.self.now) (begun c.args.self.now c.args.batch.now c.args.had);
  batch = ap (batch_applied c.args.batch.now) (begun c.args.self.now c.args.batch.now c.args.had);
  in_range = λ ranged b. (ranged, b);
}

pub apply_entry-requires-clause-base : goal.apply_entry-requires-clause-base
apply_entry-requires-clause-base c =
    let same = ap (λ (h : Holder). base_index h.log) c.loop-index.invariant.self in
    let low = c.requires.base in
    let above = c.loop-index.auto.index in
    omega (arith, same, low, above)

pub apply_entry-requires-clause-last : goal.apply_entry-requires-clause-last
apply_entry-requires-clause-last c =
    let same = ap (λ (h : Holder). last_index h.log) c.loop-index.invariant.self in
    let lt = c.loop-index-test.true in
    let committed = c.committed-index-end.ensures.committed in
    let o = c.committed-index-end.ensures.ordered in
    let p = o.promised in
    let l = o.last in
    omega (arith, same, lt, committed, p, l)

pub loop-index-preserved : goal.loop-index-preserved
loop-index-preserved c =
    let h : Holder = c.args.self.now in
    let b : Batch = c.args.batch.now in
    let had : ℕ = c.args.had in
    let i : ℕ = c.loop-index.index in
    let low = c.requires.base in
    let above = c.loop-index.auto.index in
    let lt = c.loop-index-test.true in
    let committed = c.committed-index-end.ensures.committed in
    let o = c.committed-index-end.ensures.ordered in
    let p = o.promised in
    let l = o.last in
    let base : base_index h.log ≤ i = omega (arith, low, above) in
    let within : i < last_index h.log = omega (arith, lt, committed, p, l) in
    let next : Next h.log i = next_entry h.log i base within in
    let so_far : Applied = applied_upto h b had i in
    let one : Applied = applied_one so_far (i + 1, next.entry) in
    let goes : one ≡ applied_upto h b had (i + 1) = sym (applied-next h b had i low above next within) in
    let log-same : entry_at c.loop-index.self.log (i + 1) ≡ entry_at h.log (i + 1) = ap (λ (g : Holder). entry_at g.log (i + 1)) c.loop-index.invariant.self in
    let self-after = subst (λ e. IfSome e (λ x. c.apply_entry.new.self ≡ holder_applied c.loop-index.self (applied_one (before_applied c.loop-index.self c.loop-index.batch) (i + 1, x))))
    (log-same ∙ next.stands) c.in_ok-apply_entry.ensures.after in
    let batch-after = subst (λ e. IfSome e (λ x. c.apply_entry.new.batch ≡ batch_applied c.loop-index.batch (applied_one (before_applied c.loop-index.self c.loop-index.batch) (i + 1, x))))
    (log-same ∙ next.stands) c.in_ok-apply_entry.ensures.batch in
    record {
      self =
          self-after
          ∙ (ap (λ (g : Holder). holder_applied g (applied_one (before_applied g c.loop-index.batch) (i + 1, next.entry))) c.loop-index.invariant.self
          ∙ (ap (λ (d : Batch). holder_applied (holder_applied h so_far) (applied_one (before_applied (holder_applied h so_far) d) (i + 1, next.entry))) c.loop-index.invariant.batch
          ∙ ap (holder_applied h) goes));
      batch =
          batch-after
          ∙ (ap (λ (g : Holder). batch_applied c.loop-index.batch (applied_one (before_applied g c.loop-index.batch) (i + 1, next.entry))) c.loop-index.invariant.self
          ∙ (ap (λ (d : Batch). batch_applied d (applied_one (before_applied (holder_applied h so_far) d) (i + 1, next.entry))) c.loop-index.invariant.batch
          ∙ ap (batch_applied b) goes));
      in_range = λ ranged in_b. (let before = c.loop-index.invariant.in_range ranged in_b in c.in_ok-apply_entry.ensures.in_range before.0 before.1);
    }

at-end : (c : After-loop-index) → applied_upto c.args.self.now c.args.batch.now c.args.had c.loop-index.index ≡ applied_upto c.args.self.now c.args.batch.now c.args.had c.args.self.now.log.committed
at-end c =
    let past = c.loop-index-test.false in
    let committed = c.committed-index-end.ensures.committed in
    let le = c.loop-index.auto.index-end in
    let had = c.requires.had in
    ap (applied_upto c.args.self.now c.args.batch.now c.args.had) (omega (arith, past, committed, le, had))

pub returns-clause-after : goal.returns-clause-after
returns-clause-after c = c.loop-index.invariant.self ∙ ap (holder_applied c.args.self.now) (at-end c)

pub returns-clause-batch : goal.returns-clause-batch
returns-clause-batch c = c.loop-index.invariant.batch ∙ ap (batch_applied c.args.batch.now) (at-end c)

pub returns-clause-in_range : goal.returns-clause-in_range
returns-clause-in_range c = c.loop-index.invariant.in_range

pub apply_entry-requires-clause-top : goal.apply_entry-requires-clause-top
apply_entry-requires-clause-top c =
    let lt = c.loop-index-test.true in
    let committed = c.committed-index-end.ensures.committed in
    let o = c.committed-index-end.ensures.ordered in
    let p = o.promised in
    let l = o.last in
    let t = o.top in
    omega (arith, lt, committed, p, l, t)
