-- What is in range in every run, and what this makes of the premise that SHA-256 does not collide.
use Rattle.std.specs.Prelude.{ℕ, ◌≤◌, List, length}
use Rattle.std.specs.List.{AllByRecursion}
use Rattle.values.specs.declared.limits.TheConstants.{MAX_EVENTS}
use Rattle.values.specs.declared.event.Event.{Event}
use Rattle.replica_model.specs.Path.{Link}
use Rattle.replica_model.specs.Linked.{sha_link}
use Rattle.group_model.specs.Run.{Recorded, run}
use Rattle.group_model.specs.Log.{NoCollision}
use Rattle.trace_model.specs.Hashing.{GivesHashes, NoByteCollision}
use Rattle.range_laws.specs.Ranges.{IsId, CallIn, EventIn}

-- a call of a replica, in a run of n events
pub record RecordedIn (n : ℕ) (r : Recorded) : Type 0 where
  pub replica : IsId r.replica
  pub call : CallIn n r.call

-- where each event of a run is in range, each call of it is: the state that it leaves, its messages and its batch
abbrev pub CallsInRange : Type 0
CallsInRange =
    (link : Link) (events : List Event) → GivesHashes link → length events ≤ MAX_EVENTS → AllByRecursion EventIn events
    → AllByRecursion (RecordedIn (length events)) (run link events).field.history

-- in such a run where the bytes that are hashed do not collide, the entries do not
abbrev pub BytesTellCollisions : Type 0
BytesTellCollisions =
    (events : List Event) → length events ≤ MAX_EVENTS → AllByRecursion EventIn events → NoByteCollision (run sha_link events)
    → NoCollision sha_link (run sha_link events)
