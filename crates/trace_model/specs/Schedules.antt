-- Schedules played over the replicas of the model.
use Rattle.std.specs.Prelude.{ℕ, List, Option}
use Rattle.replica_model.specs.Path.{Link}
use Rattle.replica_model.specs.Message.{Message}
use Rattle.record_cutting.specs.Lines.{whole_records}
use Rattle.schedule_model.specs.Written.{Stop, Written, text_with, no_closing, last_of, stop_of}
use Rattle.group_model.specs.Run.{Enclaves, World, enclaves, no_enclaves, empty_world}
use Rattle.trace_model.specs.Trace.{Playing, playing, closing, records_played, schedule_played}

-- what a schedule writes, over a link function, and where it ends
abbrev pub played_of : Link → List ℕ → Written (Playing Message Enclaves)
played_of link bytes = schedule_played (enclaves link) no_enclaves bytes

-- the trace of a schedule's bytes
abbrev pub trace_of : Link → List ℕ → List ℕ
trace_of link bytes = text_with closing (played_of link bytes)

-- the event lines of the records that stand whole in bytes
abbrev pub whole_text_of : Link → List ℕ → List ℕ
whole_text_of link bytes = text_with no_closing (records_played (enclaves link) (playing empty_world) (whole_records bytes))

-- why the trace ends before its schedule, where it does
abbrev pub stop_in : Link → List ℕ → Option Stop
stop_in link bytes = stop_of (played_of link bytes)

-- the world after the events that were played
abbrev pub world_of : Link → List ℕ → World
world_of link bytes = (last_of (played_of link bytes)).group

-- the enclaves as the trace left them: with the calls of the event that ended it, where one did
abbrev pub enclaves_of : Link → List ℕ → Enclaves
enclaves_of link bytes = (last_of (played_of link bytes)).stands
