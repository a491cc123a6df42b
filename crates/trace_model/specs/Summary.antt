-- The summary of a drill.
use Rattle.std.specs.Prelude.{ℕ, Bool, true, false, List, [], ◌∷◌, length, count_by, codes, decimal, Option, Some, None, is_some}
use Rattle.values.specs.declared.want.Report.{Report}
use Rattle.values.specs.declared.want.Report.TheVariants as report
use Rattle.replica_model.specs.Path.{Link}
use Rattle.replica_model.specs.Message.{Message}
use Rattle.schedule_model.specs.Drill.{drill_events}
use Rattle.schedule_model.specs.Lines.{Line, lines_text, bound_word, hex}
use Rattle.schedule_model.specs.Written.{Written, text_with, last_of}
use Rattle.group_model.specs.Group.{Hearing, is_within}
use Rattle.trace_model.specs.Trace.{Playing, playing, closing, events_played}
use Rattle.group_model.specs.Run.{Recorded, Enclaves, World, enclaves, empty_world}

abbrev pub is_stored : Report → Bool
is_stored report.Stored = true
is_stored _ = false

abbrev pub is_recovered : Report → Bool
is_recovered (report.Recovered secret left) = true
is_recovered _ = false

abbrev pub is_wrong_pin : Report → Bool
is_wrong_pin (report.WrongPin left) = true
is_wrong_pin _ = false

abbrev pub is_deleted : Report → Bool
is_deleted report.Deleted = true
is_deleted _ = false

abbrev pub reports : (Report → Bool) → Option Report → Bool
reports test None = false
reports test (Some r) = test r

-- how many hearings gave such a report
abbrev pub reported : (Report → Bool) → World → ℕ
reported test w = count_by (λ (h : Hearing). reports test h.report) w.hearings

-- how often a replica halted
abbrev pub halts : World → ℕ
halts w = count_by (λ (r : Recorded). is_some r.call.batch.halt) w.field.history

abbrev pub number_line : List ℕ → ℕ → Line
number_line word n = word ∷ decimal n ∷ []

-- the lines of a summary, where this is the world at the end and the hash that of the whole trace
abbrev pub summary_lines : ℕ → ℕ → World → List ℕ → List Line
summary_lines seed clients w hash =
    (codes "drill" ∷ decimal seed ∷ decimal clients ∷ [])
    ∷ number_line (codes "events") (length w.past)
    ∷ number_line (codes "messages") (length w.messages)
    ∷ number_line (codes "answers") (length w.answers)
    ∷ number_line (codes "stored") (reported is_stored w)
    ∷ number_line (codes "recovered") (reported is_recovered w)
    ∷ number_line (codes "wrongpin") (reported is_wrong_pin w)
    ∷ number_line (codes "deleted") (reported is_deleted w)
    ∷ number_line (codes "halts") (halts w)
    ∷ number_line (codes "log") w.committed
    ∷ (codes "rollbacks" ∷ bound_word (is_within w) ∷ [])
    ∷ (codes "trace" ∷ hex hash ∷ [])
    ∷ []

-- the drill of a seed and a number of clients, as it is played
abbrev pub drill_played : Link → ℕ → ℕ → Written (Playing Message Enclaves)
drill_played link seed clients = events_played (enclaves link) (playing empty_world) (drill_events seed clients)

-- the summary, by the function that hashes the trace
abbrev pub summary : (List ℕ → List ℕ) → Link → ℕ → ℕ → List ℕ
summary hashed link seed clients = summary_of (drill_played link seed clients)
  where
    summary_of : Written (Playing Message Enclaves) → List ℕ
    summary_of played = lines_text (summary_lines seed clients (last_of played).group (hashed (text_with closing played)))
