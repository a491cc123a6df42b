use Rattle.std.proofs.Common.{◌≡◌}
use Rattle.replica_core.specs.Ranges.{IsStepBatch}
use Rattle.replica_core.specs.InRange.{IsHolderInRange}
use Rattle.replica_core.specs.Applying.{holder_applied, batch_applied}
use Rattle.replica_core.proofs.Entries.{applied_upto}
use Rattle.replica_core.proofs.holder.Holder.apply_committed.Given as goal

abbrev pub invariant-loop-index : goal.invariant-loop-index
invariant-loop-index l = record {
  self : l.self ≡ holder_applied l.fn.self (applied_upto l.fn.self l.fn.batch l.had l.index);
  batch : l.batch ≡ batch_applied l.fn.batch (applied_upto l.fn.self l.fn.batch l.had l.index);
  in_range : IsHolderInRange l.fn.self → IsStepBatch l.fn.batch → IsHolderInRange l.self × IsStepBatch l.batch;
}
