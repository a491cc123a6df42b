-- Traces of short schedules, with a link that is easy to read.
use Rattle.std.proofs.Common.{◌≡◌, ℕ, ◌+◌, ◌*◌, true, false, List, [], ◌∷◌, ◌++◌, map, replicate, Some, None, Ok, Err, refl}
use Rattle.std.specs.Prelude.{codes, flat_map}
use Rattle.std.specs.Fmt.{digits}
use Rattle.csv.proofs.OnLiterals.{csv_on_literals}
use Rattle.hex.proofs.OnLiterals.{hex_on_literals}
use Rattle.proto_wire.specs.Fields.{payload_field, field_at, sequence_behind}
use Rattle.proto_wire.specs.Varint.{groups, number_in}
use Rattle.values.specs.declared.entry.Body.TheVariants.{Noop}
use Rattle.values.specs.declared.entry.LogEntry.{LogEntry}
use Rattle.values.specs.declared.event.Event.TheVariants as event
use Rattle.replica_model.specs.Call.{empty_batch}
use Rattle.replica_model.specs.Path.{Link}
use Rattle.record_cutting.specs.Lines.{whole_lines, last_part, line_records}
use Rattle.schedule_model.specs.Lines.{line_text}
use Rattle.schedule_model.specs.Quantities.{Replicas, States}
use Rattle.schedule_model.specs.Written.{AtFrame, Off, all_written, last_of}
use Rattle.group_model.specs.Run.{World, empty_world}
use Rattle.trace_model.specs.Contents.{ReadsBatch, played_from, left_from}
use Rattle.trace_model.specs.Limits.{passed_before, passed_after}
use Rattle.trace_model.specs.Schedules.{trace_of, whole_text_of}
use Rattle.trace_model.specs.Driver.{Driver, Silence, Led, seen}
use Rattle.trace_model.specs.TraceLines.{TraceLine, EventLine, Commit, Refused, LogEnd, Rollbacks, End, Stopped}
use Rattle.trace_model.specs.Audit.{Verdict, Accepts, Refuses, WrongCommit, WrongRollbacks, WrongEnd, verdict, new_audit}

-- what texts are read and written with
unfoldable reading : Unit {0}
unfolding digits csv_on_literals hex_on_literals payload_field field_at sequence_behind groups number_in whole_lines last_part line_records line_text all_written
reading = tt

abbrev toy : Link
toy h index e = record { 0 = h.0 ++ (1000 * index + e.term) ∷ [] }

-- the last line is played, and its text is closed
whole : trace_of toy (codes "begin,0,9,1\n#\ntick,1") ≡ codes "event,1,begin,0,9,1\nevent,2,tick,1\nlead,1,1\ncommit,1,1,1,noop\nlog,1\nrollbacks,within\nend,2,0,0\n"
unfolding reading
whole = refl

-- where whole lines alone count, neither is
lines_alone : whole_text_of toy (codes "begin,0,9,1\n#\ntick,1") ≡ codes "event,1,begin,0,9,1\n"
unfolding reading
lines_alone = refl

-- a remark is counted, and the text ends at a bad record
stopped : trace_of toy (codes "#\nbegin,0,9,1\ntick,x\ntick,1\n") ≡ codes "event,1,begin,0,9,1\nstopped,schedule,3,number,2\n"
unfolding reading
stopped = refl

-- settle delivers no more than it says, and is no event
settled : trace_of toy (codes "begin,0,9,1,2\ntick,1\nsettle,1\nsettle,0\ntick,9\n") ≡ codes "event,1,begin,0,9,1,2\nevent,2,tick,1\nsent,1,1,2,askvote,1,0,0\nevent,3,deliver,1\nsent,2,2,1,vote,1,1\nevent,4,tick,9\nrefused,notrunning,9\nlog,0\nrollbacks,within\nend,4,2,0\n"
unfolding reading
settled = refl

-- limits: the 65th replica and the 65th state are too many, and an id that is refused is none
abbrev with_replicas : ℕ → World
with_replicas n = record empty_world { started = replicate n 7 }

replicas : passed_before (with_replicas 64) (event.Start 8) ≡ Some Replicas
replicas = refl

room : passed_before (with_replicas 63) (event.Start 8) ≡ None
room = refl

refused_start : passed_before (with_replicas 64) (event.Start 7) ≡ None
refused_start = refl

states : passed_after (record empty_world { saves = replicate 65 1 }) ≡ Some States
states = refl

all_states : passed_after (record empty_world { saves = replicate 64 1 }) ≡ None
all_states = refl

-- a driver asks the leader that it hears of, where it runs; else it moves on and wakes
abbrev driver : Driver
driver = record { target = 2; wakes = false; left = 5 }

follows_the_leader : seen driver (Led 1) (1 ∷ 2 ∷ 3 ∷ []) ≡ record driver { target = 1 }
follows_the_leader = refl

leader_gone : seen driver (Led 1) (2 ∷ 3 ∷ []) ≡ record driver { target = 3; wakes = true }
leader_gone = refl

round_again : seen driver Silence (1 ∷ 2 ∷ []) ≡ record driver { target = 1; wakes = true }
round_again = refl

-- an auditor: a roll counts where no refused line follows, and a commit comes at its index
abbrev noop : LogEntry
noop = record { term = 1; body = Noop }

abbrev judged : List TraceLine → Verdict
judged lines = verdict 0 new_audit (map (λ line. Some line) lines)

abbrev begun : List TraceLine
begun = EventLine 1 (event.Begin 0 9 (1 ∷ [])) ∷ Commit 1 1 noop ∷ EventLine 2 (event.Roll 1 0) ∷ []

rolled : judged (begun ++ (LogEnd 1 ∷ Rollbacks true ∷ End ∷ [])) ≡ Refuses 5 WrongRollbacks
rolled = refl

refused_roll : judged (begun ++ (Refused ∷ LogEnd 1 ∷ Rollbacks true ∷ End ∷ [])) ≡ Accepts 7
refused_roll = refl

gap : judged (begun ++ (Commit 1 3 noop ∷ [])) ≡ Refuses 4 WrongCommit
gap = refl

after_stopped : judged (Stopped ∷ Stopped ∷ []) ≡ Refuses 2 WrongEnd
after_stopped = refl

-- contents: one without bytes is no batch from offset 4 on, and any other has a saved state
abbrev read : ReadsBatch
read [] = Err 4
read (b ∷ bytes) = Ok (record empty_batch { saved = Some 1 })

-- the content that is no batch ends the text, and the one after it is left
refused_content : played_from read (codes "begin,0,9,1\ntick,1\ntick,1\n") ((1 ∷ []) ∷ [] ∷ (2 ∷ []) ∷ [])
    ≡ Off (codes "event,1,begin,0,9,1\nevent,2,tick,1\nsaved,1,1\n") (AtFrame 4) (record (last_of (played_from read (codes "begin,0,9,1\ntick,1\n#\n") ((1 ∷ []) ∷ [] ∷ (2 ∷ []) ∷ []))) { stands = (2 ∷ []) ∷ [] })
unfolding reading
refused_content = refl

-- so does the one whose batch passes a limit
state_too_many : left_from read (flat_map (λ line. line) (codes "begin,0,9,1\n" ∷ replicate 65 (codes "save,1\n"))) (replicate 65 (1 ∷ []) ++ (2 ∷ []) ∷ []) ≡ (2 ∷ []) ∷ []
unfolding reading
state_too_many = refl
