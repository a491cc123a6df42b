-- The auditor's step in two: why a line is refused, if it is, and what the auditor has after one that is not.
use Rattle.std.specs.Prelude.{ℕ, ◌==◌, Bool, true, false, if◌then◌else◌, List, [], ◌∷◌, ◌++◌, length, Option, Some, None, Result, Ok, Err}
use Rattle.std.specs.List.{list_all}
use Rattle.group_quorum.specs.Conf.{Conf}
use Rattle.group_quorum.specs.Voters.{rising}
use Rattle.values.specs.declared.entry.LogEntry.{LogEntry}
use Rattle.values.specs.declared.event.Event.TheVariants as event
use Rattle.values.specs.declared.ids.ClientId.{ClientId}
use Rattle.values.specs.declared.message.Reply.{Reply}
use Rattle.replica_model.specs.Path.{Path, entry_at}
use Rattle.group_model.specs.Group.{Setup, bears}
use Rattle.trace_model.specs.Audit.{Audit, Stage, Playing, AfterLog, AfterRollbacks, Over, Why, WrongGrammar, WrongCommit, WrongOutcome, WrongLog, WrongRollbacks, WrongEnd, is_misplaced, same_bool}
use Rattle.trace_model.specs.TraceLines.{TraceLine, EventLine, Commit, Outcome, Members, Refused, LogEnd, Rollbacks, End, Stopped}
use Rattle.trace_audit.specs.Books.{fits, answers}

-- whether a line of this kind may stand here
abbrev pub takes : Stage → TraceLine → Bool
takes Playing (Rollbacks within) = false
takes Playing End = false
takes Playing line = true
takes AfterLog (Rollbacks within) = true
takes AfterLog line = false
takes AfterRollbacks End = true
takes AfterRollbacks line = false
takes Over line = false

abbrev pub stage_after : Stage → TraceLine → Stage
stage_after stage (LogEnd n) = AfterLog
stage_after stage (Rollbacks within) = AfterRollbacks
stage_after stage End = Over
stage_after stage Stopped = Over
stage_after stage line = stage

-- the check of a line's kind: whether it meets the book, and the rolls that stand at it
abbrev pub is_commit : Option Setup → Path → ℕ → LogEntry → Bool
is_commit None book index e = false
is_commit (Some setup) book index e = fits book index e

abbrev pub is_outcome : Option Setup → Path → ClientId → ℕ → ℕ → Reply → Bool
is_outcome None book c n index what = false
is_outcome (Some setup) book c n index what = answers setup.limit book c n index what

abbrev pub only : Bool → Why → Option Why
only true why = None
only false why = Some why

abbrev pub kind_fault : Audit → TraceLine → Option Why
kind_fault a (Commit r index e) = only (is_commit a.setup a.book index e) WrongCommit
kind_fault a (Outcome c n index what) = only (is_outcome a.setup a.book c n index what) WrongOutcome
kind_fault a (LogEnd n) = only (n == length a.book) WrongLog
kind_fault a (Rollbacks within) = only (same_bool within (list_all (bears (a.rolling ++ a.rolled)) a.confs)) WrongRollbacks
kind_fault a line = None

-- why the line is refused: no grammar, then out of its place, then by its kind
abbrev pub placed_fault : Audit → TraceLine → Option Why
placed_fault a line = if takes a.stage line then kind_fault a line else Some WrongEnd

abbrev pub fault : Audit → TraceLine → Option Why
fault a line = if is_misplaced a.setup line then Some WrongGrammar else placed_fault a line

-- what stands after a line that is not refused
abbrev pub setup_after : Option Setup → TraceLine → Option Setup
setup_after setup (EventLine number (event.Begin margin limit voters)) =
    Some (record { limit = limit; first = record { margin = margin; voters = rising voters } })
setup_after setup line = setup

abbrev pub added : Path → LogEntry → Option LogEntry → Path
added book e (Some kept) = book
added book e None = book ++ e ∷ []

abbrev pub book_after : Path → TraceLine → Path
book_after book (Commit r index e) = added book e (entry_at book index)
book_after book line = book

abbrev pub confs_after : List Conf → TraceLine → List Conf
confs_after confs (EventLine number (event.Begin margin limit voters)) = record { margin = margin; voters = rising voters } ∷ confs
confs_after confs (Members margin voters) = record { margin = margin; voters = voters } ∷ confs
confs_after confs line = confs

abbrev pub rolled_after : List ℕ → List ℕ → TraceLine → List ℕ
rolled_after rolling rolled Refused = rolled
rolled_after rolling rolled line = rolling ++ rolled

abbrev pub rolling_after : TraceLine → List ℕ
rolling_after (EventLine number (event.Roll r k)) = r ∷ []
rolling_after line = []

abbrev pub after : Audit → TraceLine → Audit
after a line =
    record {
      stage = stage_after a.stage line;
      setup = setup_after a.setup line;
      book = book_after a.book line;
      confs = confs_after a.confs line;
      rolled = rolled_after a.rolling a.rolled line;
      rolling = rolling_after line;
    }

-- the step by its two parts
abbrev pub step_by : Audit → TraceLine → Option Why → Result Audit Why
step_by a line (Some why) = Err why
step_by a line None = Ok (after a line)
