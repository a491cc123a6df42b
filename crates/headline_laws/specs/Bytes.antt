-- The laws of runs under the premise that a person means: the bytes that the chain hashes do not collide.
use Rattle.std.specs.Prelude.{ℕ, List}
use Rattle.replica_model.specs.Linked.{sha_link}
use Rattle.group_model.specs.Log.{WithinBound, NoCollision}
use Rattle.group_model.specs.Laws.{OneLogLaws}
use Rattle.trace_model.specs.Hashing.{NoByteCollision}
use Rattle.trace_model.specs.Schedules.{world_of}

-- of every schedule: where no two different byte strings that its run hashes have one SHA-256, no two different inputs of
-- the chain's link have one hash
abbrev pub BytesTellSchedules : Type 0
BytesTellSchedules = (bytes : List ℕ) → NoByteCollision (world_of sha_link bytes) → NoCollision sha_link (world_of sha_link bytes)

-- the headline, of every schedule over the program's own link
abbrev pub HeadlineInBytes : Type 0
HeadlineInBytes =
    (bytes : List ℕ) → WithinBound (world_of sha_link bytes) → NoByteCollision (world_of sha_link bytes)
    → OneLogLaws (world_of sha_link bytes)
