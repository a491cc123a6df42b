-- How a run ended.
use Rattle.std.specs.Prelude.{ℕ, ◌≡◌, ◌≢◌, ◌≤◌, ◌<◌, ◌⊎◌, List, [], ◌++◌, length, take, Option, Some, None}
use Rattle.std.specs.Io.KnownBytes.{Appends, Consumes, IsAtEnd}
use Rattle.record_cutting.specs.Lines.{Record, records_of, whole_records}
use Rattle.record_stream.specs.Ends.{IsFrontOf, limit, piece_size}
use Rattle.record_stream.specs.declared.source.Ended.{Ended}
use Rattle.record_stream.specs.declared.source.Ended.TheVariants as ended
use Rattle.schedule_model.specs.Written.{Stop, AtRecord, AtLimit, AtFrame, AtField, Written, all_written, no_closing, stopped_text, stop_of, text_with}
use Rattle.schedule_text.specs.declared.fault.Stopped.{Stopped}
use Rattle.schedule_text.specs.declared.fault.Stopped.TheVariants as stopped
use Rattle.replica_model.specs.Linked.{sha_link}
use Rattle.group_model.specs.Log.{NoCollision}
use Rattle.replica_model.specs.Message.{Message}
use Rattle.group_model.specs.Run.{Enclaves, World, enclaves, empty_world}
use Rattle.trace_model.specs.Driven.{Driving, driven_record, driven_trace}
use Rattle.trace_model.specs.Driver.{new_driver}
use Rattle.trace_model.specs.Trace.{playing, records_played}
use Rattle.trace_model.specs.Schedules.{trace_of, whole_text_of, stop_in}
use Rattle.part_laws.specs.Named.{driven_from, played_from, with_enclaves}
use Rattle.group_world.specs.declared.halt.Halt.{Halt}
use Rattle.group_world.specs.declared.halt.Halt.TheVariants as halt
use Rattle.group_world.specs.declared.schedule.Played.{Played}
use Rattle.group_world.specs.declared.schedule.Played.TheVariants as played
use Rattle.table_model.specs.TableText.{table_text}
use Rattle.table_command.specs.Text.{stop_of_table, table_lines, stop_of_whole}
use Rattle.svr2_run.specs.declared.exit.Status.{Status}
use Rattle.svr2_run.specs.declared.exit.Status.TheVariants as status
use Rattle.svr2_run.specs.declared.words.Play.{Play}
use Rattle.svr2_run.specs.declared.words.Play.TheVariants.{Drive, Replay, Table}

-- the world after these records, with the calls of an event that ended their text
abbrev pub tried_by : List Record → World
tried_by records = with_enclaves (played_from sha_link records).group (played_from sha_link records).stands

-- the same where each accepted want is carried to its report
abbrev pub tried_by_driven : List Record → World
tried_by_driven records = with_enclaves (driven_from sha_link records).playing.group (driven_from sha_link records).playing.stands

-- what these records write where clients are driven
abbrev pub driven_by : List Record → Written (Driving Message Enclaves)
driven_by records = all_written (driven_record (enclaves sha_link)) (record { playing = playing empty_world; driver = new_driver 0 }) records

-- What is said of records that a group plays is said where the chain's link does not collide in their run. One table hashes
-- nothing.
abbrev pub Holds : Play → List Record → Type 0
Holds Replay records = NoCollision sha_link (tried_by records)
Holds Drive records = NoCollision sha_link (tried_by_driven records)
Holds (Table rows) records = Unit {0}

-- the whole text of a play over the bytes of a source
abbrev pub text_of : Play → List ℕ → List ℕ
text_of Replay bytes = trace_of sha_link bytes
text_of Drive bytes = driven_trace sha_link bytes
text_of (Table rows) bytes = table_text rows bytes

-- the lines of the records that stand whole in bytes, without those at the end
abbrev pub lines_of : Play → List ℕ → List ℕ
lines_of Replay bytes = whole_text_of sha_link bytes
lines_of Drive bytes = text_with no_closing (driven_by (whole_records bytes))
lines_of (Table rows) bytes = table_lines rows bytes

-- the status where nothing but the records decides: 3 where a record ends the text, 7 where a limit does
abbrev pub status_for : Stop → Status
status_for (AtRecord number fault) = status.Schedule
status_for (AtLimit passed) = status.Limit
status_for (AtFrame at) = status.Frame
status_for AtField = status.FieldFault

abbrev pub status_by : Option Stop → Status
status_by None = status.Done
status_by (Some stop) = status_for stop

abbrev pub table_status_for : Stopped → Status
table_status_for stopped.AtRecord = status.Schedule
table_status_for stopped.AtLimit = status.Limit

abbrev pub table_status_by : Option Stopped → Status
table_status_by None = status.Done
table_status_by (Some why) = table_status_for why

-- why the text of the records that stand whole in bytes ends before them, where it does
abbrev pub whole_stop_in : List ℕ → Option Stop
whole_stop_in bytes = stop_of (records_played (enclaves sha_link) (playing empty_world) (whole_records bytes))

-- of all records of bytes, and of those that stand whole in them
abbrev pub status_in : Play → List ℕ → Status
status_in Replay bytes = status_by (stop_in sha_link bytes)
status_in Drive bytes = status_by (stop_of (driven_by (records_of bytes)))
status_in (Table rows) bytes = table_status_by (stop_of_table rows bytes)

abbrev pub whole_status_in : Play → List ℕ → Status
whole_status_in Replay bytes = status_by (whole_stop_in bytes)
whole_status_in Drive bytes = status_by (stop_of (driven_by (whole_records bytes)))
whole_status_in (Table rows) bytes = table_status_by (stop_of_whole rows bytes)

-- the last line of a text says why it ends there
pub record EndsStopped (text : List ℕ) : Type 0 where
  pub before : List ℕ
  pub stop : Stop
  pub parts : text ≡ before ++ stopped_text stop

-- one of the records ended the text with this status, and the sink gained the whole text, which says so
abbrev pub StoppedBy : Play → Status → List ℕ → Option (List ℕ) → Option (List ℕ) → Type 0
StoppedBy play why all old new =
    Holds play (records_of all) → (status_in play all ≡ why) × EndsStopped (text_of play all) × Appends old new (text_of play all)

-- no record that stands whole in these bytes ends the text, and the sink gained exactly their lines
abbrev pub WroteLines : Play → List ℕ → Option (List ℕ) → Option (List ℕ) → Type 0
WroteLines play bytes old new =
    Holds play (whole_records bytes) → (whole_status_in play bytes ≡ status.Done) × Appends old new (lines_of play bytes)

-- The sink gained first bytes of the lines of the records that stand whole in the bytes read, as far as they are played, or,
-- where all was read, of these and the closing lines. All that had been read but for the last piece, of at most 65,536 bytes,
-- had been played before: the lines of the records whole in it were gained.
pub record CutOff (play : Play) (all : List ℕ) (left old new : Option (List ℕ)) : Type 0 where
  pub read : List ℕ
  pub consumed : Consumes (Some all) left read
  pub written : List ℕ
  pub of_read : (Holds play (whole_records (take limit read)) → IsFrontOf written (lines_of play (take limit read)))
      ⊎ (IsAtEnd left × (length read ≤ limit) × (Holds play (records_of read) → IsFrontOf written (text_of play read)))
  pub before : List ℕ
  pub piece : List ℕ
  pub rest : List ℕ
  pub parts : read ≡ before ++ piece
  pub short : length piece ≤ piece_size
  pub lines : Holds play (whole_records before) → written ≡ lines_of play before ++ rest
  pub gained : Appends old new written

-- how it ended over a source that held all these bytes, with what the source has left and what the sink gained
abbrev pub RunsOver : Play → List ℕ → Option (List ℕ) → Option (List ℕ) → Option (List ℕ) → Status → Type 0
RunsOver play all left old new status.Done =
    (left ≡ Some []) × (length all ≤ limit)
    × (Holds play (records_of all) → (status_in play all ≡ status.Done) × Appends old new (text_of play all))
RunsOver play all left old new status.Schedule = StoppedBy play status.Schedule all old new
RunsOver play all left old new status.ReadFault = (read : List ℕ) × Consumes (Some all) left read × WroteLines play read old new
RunsOver play all left old new status.Limit =
    ((limit < length all) × WroteLines play (take limit all) old new) ⊎ StoppedBy play status.Limit all old new
RunsOver play all left old new status.WriteFault = CutOff play all left old new
RunsOver play all left old new status.Memory = CutOff play all left old new
RunsOver play all left old new status.Frame = ¬ (Holds play (records_of all))
RunsOver play all left old new status.FieldFault = ⊥
RunsOver play all left old new status.Usage = ⊥
RunsOver play all left old new status.Refused = ⊥

-- the run of one table never ends at a frame
abbrev pub IsNoFrame : Play → Status → Type 0
IsNoFrame Replay result = Unit {0}
IsNoFrame Drive result = Unit {0}
IsNoFrame (Table rows) result = result ≢ status.Frame

-- ---- the ends of the players, as the status of a run

-- by what the reason for a stop means
abbrev pub status_ended : {R : Type 0} → (R → Status) → Ended R → Status
status_ended stopped ended.Done = status.Done
status_ended stopped (ended.Stopped why) = stopped why
status_ended stopped ended.Memory = status.Memory
status_ended stopped ended.ReadFault = status.ReadFault
status_ended stopped ended.WriteFault = status.WriteFault
status_ended stopped ended.Limit = status.Limit
status_ended stopped ended.Failed = status.FieldFault

abbrev pub status_of : Ended Stopped → Status
status_of e = status_ended table_status_for e

-- why a driven schedule is not played to its end
abbrev pub status_halted : Halt → Status
status_halted (halt.Record number cause field) = status.Schedule
status_halted (halt.Limit which) = status.Limit
status_halted (halt.Frame at) = status.Frame

abbrev pub status_driven : Ended Halt → Status
status_driven e = status_ended status_halted e

abbrev pub status_played : Played → Status
status_played played.Done = status.Done
status_played played.Memory = status.Memory
status_played (played.Schedule line cause field) = status.Schedule
status_played played.ReadFault = status.ReadFault
status_played played.WriteFault = status.WriteFault
status_played played.FieldFault = status.FieldFault
status_played (played.Limit which) = status.Limit
status_played (played.Frame at) = status.Frame
