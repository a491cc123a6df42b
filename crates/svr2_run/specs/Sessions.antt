-- How the serving of a session ends, as the status of a run.
use Rattle.std.specs.Prelude.{ℕ, List, Option}
use Rattle.values.specs.declared.entry.Point.{Point}
use Rattle.replica_model.specs.Replica.{Named}
use Rattle.trace_model.specs.Session.{Tagging}
use Rattle.replica_server.specs.Serving.{ServedOver}
use Rattle.replica_server.specs.declared.served.Served.{Served}
use Rattle.replica_server.specs.declared.served.Served.TheVariants as served
use Rattle.replica_server.specs.declared.served.FrameCause.{FrameCause}
use Rattle.svr2_run.specs.declared.exit.Status.{Status}
use Rattle.svr2_run.specs.declared.exit.Status.TheVariants as status

abbrev pub status_of : Served → Status
status_of served.Done = status.Done
status_of served.Memory = status.Memory
status_of served.ReadFault = status.ReadFault
status_of served.WriteFault = status.WriteFault
status_of (served.Frame at why) = status.Frame
status_of served.Limit = status.Limit

-- how it ended over a source that held all these bytes, by the map from points to paths. Status 8 is at some bad frame
abbrev pub ServesOver : Tagging → (Point → Named) → List ℕ → (left old new : Option (List ℕ)) → Status → Type 0
ServesOver tagging names all left old new status.Done = ServedOver tagging names all left old new served.Done
ServesOver tagging names all left old new status.Memory = ServedOver tagging names all left old new served.Memory
ServesOver tagging names all left old new status.ReadFault = ServedOver tagging names all left old new served.ReadFault
ServesOver tagging names all left old new status.WriteFault = ServedOver tagging names all left old new served.WriteFault
ServesOver tagging names all left old new status.Limit = ServedOver tagging names all left old new served.Limit
ServesOver tagging names all left old new status.Frame = (at : ℕ) × (why : FrameCause) × ServedOver tagging names all left old new (served.Frame at why)
ServesOver tagging names all left old new status.Usage = ⊥
ServesOver tagging names all left old new status.Schedule = ⊥
ServesOver tagging names all left old new status.FieldFault = ⊥
ServesOver tagging names all left old new status.Refused = ⊥
