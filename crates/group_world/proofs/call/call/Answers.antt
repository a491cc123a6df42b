use Rattle.std.proofs.Common.{[], ◌∷◌}
use Rattle.group_world.specs.Given.{Content}
use Rattle.group_world.proofs.Framed.{batch_found}
use Rattle.group_world.proofs.call.call.Goals as goal

pub returns-in-Ok-new-clause-calls : goal.returns-in-Ok-new-clause-calls
returns-in-Ok-new-clause-calls g c = (
  c.call.new.out.items,
  record { gained = c.in-Ok-call.ensures.gives; stepped = c.in-Ok-call.ensures.steps },
  rw c.in-Ok-new.ensures.ok (batch_found c.call.new.out.items c.in-Ok-read_batch._sender c.in-Ok-read_batch.batch c.in-Ok-read_batch.frames (rw c.as_slice.ensures.value at c.in-Ok-read_batch.ensures.exact)),
)

pub returns-in-Err-Memory-read_batch-clause-calls : goal.returns-in-Err-Memory-read_batch-clause-calls
returns-in-Err-Memory-read_batch-clause-calls g c = (Content c.call.new.out.items ∷ [], c.in-Ok-call.ensures.gives)

pub returns-in-Ok-read_batch-clause-calls : goal.returns-in-Ok-read_batch-clause-calls
returns-in-Ok-read_batch-clause-calls g c = (Content c.call.new.out.items ∷ [], c.in-Ok-call.ensures.gives)
