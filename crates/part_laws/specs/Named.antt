-- What learners are handed in a run: true parts, and of a table at one point those of one path.
use Rattle.std.specs.Prelude.{◌≡◌, ℕ, ◌<◌, List, Option, Some, IsTrue}
use Rattle.std.specs.List.{AllByRecursion}
use Rattle.values.specs.declared.event.Event.{Event}
use Rattle.values.specs.declared.peer.TablePart.{TablePart}
use Rattle.values.specs.declared.peer.PeerMsg.{PeerMsg}
use Rattle.values.specs.declared.peer.PeerMsg.TheVariants.{Part}
use Rattle.record_cutting.specs.Lines.{Record}
use Rattle.schedule_model.specs.Written.{all_written, last_of}
use Rattle.replica_model.specs.Path.{Link, same_point}
use Rattle.replica_model.specs.Message.{Message}
use Rattle.replica_model.specs.Replica.{Named, Taking, Role, Learner}
use Rattle.replica_model.specs.Tables.{IsTruePart, point_taken}
use Rattle.group_model.specs.Enclave.{HostInput, Peer}
use Rattle.group_model.specs.Log.{NoCollision}
use Rattle.group_model.specs.Run.{Recorded, Enclaves, World, enclaves, empty_world, run}
use Rattle.trace_model.specs.Driven.{Driving, driven_record}
use Rattle.trace_model.specs.Driver.{new_driver}
use Rattle.trace_model.specs.Trace.{Playing, playing, records_played}
use Rattle.trace_model.specs.Schedules.{world_of, enclaves_of}

module _ (link : Link) where
  -- a later part of the table at the same point is of the same path as those before it
  abbrev pub GoesOn : Taking → TablePart → Named → Type 0
  GoesOn taking part names = 0 < part.part → IsTrue (same_point part.point (point_taken link taking)) → names ≡ taking.names

  -- a learner that holds nothing is handed a true part of the path that the message names, and a later part of a table at
  -- one point is of the same path as those before it. Nobody else reads what a message names
  abbrev pub IsNamed : Role → PeerMsg → Named → Type 0
  IsNamed (Learner taking) (Part term part) names = IsTruePart link part names × GoesOn taking part names
  IsNamed _ _ names = Unit {0}

  abbrev pub IsNamedTo : Role → Option (HostInput Message) → Type 0
  IsNamedTo role (Some (Peer from to m)) = IsNamed role m.msg m.names
  IsNamedTo role other = Unit {0}

  -- so it is in a recorded call
  abbrev pub IsNamedCall : Recorded → Type 0
  IsNamedCall r = IsNamedTo r.before.role r.input

  -- in all calls that these enclaves have seen
  abbrev pub AreNamed : Enclaves → Type 0
  AreNamed f = AllByRecursion IsNamedCall f.history

  -- where playing these records ends
  abbrev pub played_from : List Record → Playing Message Enclaves
  played_from records = last_of (records_played (enclaves link) (playing empty_world) records)

  -- where playing these records ends, with every accepted want carried to its report
  abbrev pub driven_from : List Record → Driving Message Enclaves
  driven_from records = last_of (all_written (driven_record (enclaves link)) (record { playing = playing empty_world; driver = new_driver 0 }) records)

-- the world with its enclaves in this state
abbrev pub with_enclaves : World → Enclaves → World
with_enclaves w f = record w { field = f }

-- without a collision so it is of every call of a run
abbrev pub CallsAreNamed : Type 0
CallsAreNamed = (link : Link) (events : List Event) → NoCollision link (run link events) → AreNamed link (run link events).field

-- where records are played, also of the calls of the event that ended the text, where one did
abbrev pub PlayedCallsAreNamed : Type 0
PlayedCallsAreNamed =
    (link : Link) (records : List Record)
    → NoCollision link (with_enclaves (played_from link records).group (played_from link records).stands)
    → AreNamed link (played_from link records).stands

-- and so of every schedule's
abbrev pub ScheduleCallsAreNamed : Type 0
ScheduleCallsAreNamed =
    (link : Link) (bytes : List ℕ) → NoCollision link (with_enclaves (world_of link bytes) (enclaves_of link bytes))
    → AreNamed link (enclaves_of link bytes)

-- and so where clients are driven
abbrev pub DrivenCallsAreNamed : Type 0
DrivenCallsAreNamed =
    (link : Link) (records : List Record)
    → NoCollision link (with_enclaves (driven_from link records).playing.group (driven_from link records).playing.stands)
    → AreNamed link (driven_from link records).playing.stands
