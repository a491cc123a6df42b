-- How a drill ends.
use Rattle.std.specs.Prelude.{ℕ, ◌≡◌, List, Option}
use Rattle.std.specs.Io.KnownBytes.{Appends}
use Rattle.byte_streams.specs.Streams.{AppendsPrefix}
use Rattle.sha2.specs.Sha256.{sha256}
use Rattle.replica_model.specs.Linked.{sha_link}
use Rattle.trace_model.specs.Summary.{summary}
use Rattle.svr2_run.specs.declared.exit.Status.{Status}
use Rattle.svr2_run.specs.declared.exit.Status.TheVariants as status

-- The sink gained exactly the summary of the drill of this seed and number of clients, whose last line has the SHA-256 of
-- the whole trace; or after a write fault first bytes of it; or for want of memory nothing. It ends in no other way.
abbrev pub DrillsTo : ℕ → ℕ → (old new : Option (List ℕ)) → Status → Type 0
DrillsTo seed clients old new status.Done = Appends old new (summary sha256 sha_link seed clients)
DrillsTo seed clients old new status.WriteFault = AppendsPrefix old new (summary sha256 sha_link seed clients)
DrillsTo seed clients old new status.Memory = new ≡ old
DrillsTo seed clients old new status.Usage = ⊥
DrillsTo seed clients old new status.Schedule = ⊥
DrillsTo seed clients old new status.ReadFault = ⊥
DrillsTo seed clients old new status.FieldFault = ⊥
DrillsTo seed clients old new status.Limit = ⊥
DrillsTo seed clients old new status.Frame = ⊥
DrillsTo seed clients old new status.Refused = ⊥
