-- What a step leaves.
use Rattle.std.specs.Prelude.{◌≡◌, None}
use Rattle.values.specs.declared.batch.Batch.{Batch}
use Rattle.group_msgs.specs.Batches.{IsBatchInRange}

-- a batch in range in which nothing is saved: what is saved is the enclave's to say
pub record IsStepBatch (batch : Batch) : Type 0 where
  pub ranged : IsBatchInRange batch
  pub saved : batch.saved ≡ None
