-- What an auditor accepts: it reads a trace alone, and keeps a book of the entries that were committed.
use Rattle.std.specs.Prelude.{◌≡◌, ℕ, ◌+◌, ◌==◌, ◌&&◌, not, Bool, true, false, if◌then◌else◌, List, [], ◌∷◌, ◌++◌, length, Option, Some, None, Result, Ok, Err, bytes_eq}
use Rattle.std.specs.List.{list_all, AllZip}
use Rattle.group_quorum.specs.Conf.{Conf}
use Rattle.group_quorum.specs.Voters.{rising}
use Rattle.values.specs.declared.entry.Body.{Body}
use Rattle.values.specs.declared.entry.Body.TheVariants as body
use Rattle.values.specs.declared.entry.LogEntry.{LogEntry}
use Rattle.values.specs.declared.event.Event.{Event}
use Rattle.values.specs.declared.event.Event.TheVariants as event
use Rattle.values.specs.declared.ids.ClientId.{ClientId}
use Rattle.values.specs.declared.message.Reply.{Reply}
use Rattle.values.specs.declared.message.Reply.TheVariants as reply
use Rattle.client_msgs.specs.Canonical.{canonical_response}
use Rattle.replica_model.specs.Path.{Path, Link, entry_at}
use Rattle.replica_model.specs.Folds.{reply_of}
use Rattle.record_cutting.specs.Lines.{lines_of}
use Rattle.group_model.specs.Group.{Setup, bears, is_client}
use Rattle.trace_model.specs.TraceLines.{TraceLine, EventLine, Commit, Outcome, Members, Refused, LogEnd, Rollbacks, End, Stopped, Other, Says}

-- why a line is refused
pub data Why : Type 0 where
  WrongGrammar : Why
  WrongCommit : Why
  WrongOutcome : Why
  WrongLog : Why
  WrongRollbacks : Why
  WrongEnd : Why

-- where a trace stands: among its events, after `log`, after `rollbacks`, or at its end
pub data Stage : Type 0 where
  Playing : Stage
  AfterLog : Stage
  AfterRollbacks : Stage
  Over : Stage

pub record Audit : Type 0 where
  pub stage : Stage
  -- what the begin line says
  pub setup : Option Setup
  -- the committed entries, empty at first
  pub book : Path
  -- the first configuration, and those of the members lines
  pub confs : List Conf
  -- who was rolled back, and whose roll the last line told
  pub rolled : List ℕ
  pub rolling : List ℕ

abbrev pub new_audit : Audit
new_audit = record { stage = Playing; setup = None; book = []; confs = []; rolled = []; rolling = [] }

abbrev pub same_numbers : List ℕ → List ℕ → Bool
same_numbers a b = bytes_eq a b

abbrev pub same_body : Body → Body → Bool
same_body body.Noop body.Noop = true
same_body (body.Ask c n r) (body.Ask d m q) = is_client c d && ((n == m) && same_numbers r q)
same_body (body.Members m v) (body.Members k w) = (m == k) && same_numbers v w
same_body a b = false

abbrev pub same_entry : LogEntry → LogEntry → Bool
same_entry a b = (a.term == b.term) && same_body a.body b.body

-- replies are the same where their lines are
abbrev pub same_reply : Reply → Reply → Bool
same_reply (reply.Applied a) (reply.Applied b) = same_numbers (canonical_response a) (canonical_response b)
same_reply (reply.Stale a) (reply.Stale b) = a == b
same_reply (reply.TableFull a) (reply.TableFull b) = a == b
same_reply a b = false

abbrev pub require : Bool → Why → Audit → Result Audit Why
require true why a = Ok a
require false why a = Err why

-- a commit within the book is the entry there; else its index is one past the book's end, and it is added
abbrev pub committed : Audit → ℕ → LogEntry → Option LogEntry → Result Audit Why
committed a index e (Some kept) = require (same_entry kept e) WrongCommit a
committed a index e None = require (index == length a.book + 1) WrongCommit (record a { book = a.book ++ e ∷ [] })

abbrev pub is_ask_of : ClientId → ℕ → Body → Bool
is_ask_of c n (body.Ask client number request) = is_client client c && (number == n)
is_ask_of c n other = false

abbrev pub is_asked : ClientId → ℕ → Option LogEntry → Bool
is_asked c n None = false
is_asked c n (Some e) = is_ask_of c n e.body

abbrev pub is_replied : Reply → Option Reply → Bool
is_replied what None = false
is_replied what (Some r) = same_reply r what

-- an outcome names an index within the book, where an ask of that client and number stands, and the reply is that of one table
abbrev pub answered : Audit → Setup → ClientId → ℕ → ℕ → Reply → Result Audit Why
answered a setup c n index what =
    require (is_asked c n (entry_at a.book index) && is_replied what (reply_of setup.limit a.book index)) WrongOutcome a

-- an event line: the begin event says the setup; a roll is told, and is accepted where no refused line follows
abbrev pub event_told : Audit → Event → Result Audit Why
event_told a (event.Begin margin limit voters) =
    let c : Conf = record { margin = margin; voters = rising voters } in
    Ok (record a { setup = Some (record { limit = limit; first = c }); confs = c ∷ a.confs })
event_told a (event.Roll r k) = Ok (record a { rolling = r ∷ [] })
event_told a e = Ok a

abbrev pub commit_told : Audit → Option Setup → ℕ → LogEntry → Result Audit Why
commit_told a None index e = Err WrongCommit
commit_told a (Some setup) index e = committed a index e (entry_at a.book index)

abbrev pub outcome_told : Audit → Option Setup → ClientId → ℕ → ℕ → Reply → Result Audit Why
outcome_told a None c n index what = Err WrongOutcome
outcome_told a (Some setup) c n index what = answered a setup c n index what

abbrev pub same_bool : Bool → Bool → Bool
same_bool true b = b
same_bool false b = not b

-- a line among the events
abbrev pub told : Audit → TraceLine → Result Audit Why
told a (EventLine number what) = event_told a what
told a (Commit r index e) = commit_told a a.setup index e
told a (Outcome c n index what) = outcome_told a a.setup c n index what
told a (Members margin voters) = Ok (record a { confs = record { margin = margin; voters = voters } ∷ a.confs })
told a Refused = Ok a
told a (LogEnd n) = require (n == length a.book) WrongLog (record a { stage = AfterLog })
told a (Rollbacks within) = Err WrongEnd
told a End = Err WrongEnd
told a Stopped = Ok (record a { stage = Over })
told a Other = Ok a

-- a second begin and a members line before begin are no grammar, wherever they stand
abbrev pub is_misplaced : Option Setup → TraceLine → Bool
is_misplaced (Some setup) (EventLine number (event.Begin margin limit voters)) = true
is_misplaced None (Members margin voters) = true
is_misplaced setup line = false

-- the closing lines stand in their order, each once, with nothing after them or after a stopped line
abbrev pub staged : Audit → Stage → TraceLine → Result Audit Why
staged a Playing line = told a line
staged a AfterLog (Rollbacks within) =
    require (same_bool within (list_all (bears a.rolled) a.confs)) WrongRollbacks (record a { stage = AfterRollbacks })
staged a AfterLog line = Err WrongEnd
staged a AfterRollbacks End = Ok (record a { stage = Over })
staged a AfterRollbacks line = Err WrongEnd
staged a Over line = Err WrongEnd

abbrev pub placed : Audit → TraceLine → Result Audit Why
placed a line = if is_misplaced a.setup line then Err WrongGrammar else staged a a.stage line

-- a roll that was told stands where the next line is no refused one
abbrev pub settled_roll : Audit → TraceLine → Audit
settled_roll a Refused = record a { rolling = [] }
settled_roll a line = record a { rolled = a.rolling ++ a.rolled; rolling = [] }

-- the audit after a line, or why the line is refused
abbrev pub audited : Audit → TraceLine → Result Audit Why
audited a line = placed (settled_roll a line) line

pub data Verdict : Type 0 where
  Accepts : (lines : ℕ) → Verdict
  Refuses : (line : ℕ) (why : Why) → Verdict

abbrev pub is_over : Stage → Bool
is_over Over = true
is_over stage = false

-- at the end of the lines, of which there were n
abbrev pub finished : ℕ → Audit → Verdict
finished n a = if is_over a.stage then Accepts n else Refuses (n + 1) WrongEnd

-- the verdict on what lines say, after n others; a line that says nothing is no grammar
abbrev pub verdict : ℕ → Audit → List (Option TraceLine) → Verdict
verdict n a [] = finished n a
verdict n a (None ∷ lines) = Refuses (n + 1) WrongGrammar
verdict n a (Some what ∷ lines) = elim (audited a what) [ Ok b ↦ verdict (n + 1) b lines | Err why ↦ Refuses (n + 1) why ]

-- a line, with its line feed, says this; or nothing
abbrev pub LineSays : List ℕ → TraceLine → Type 0
LineSays line what = (text : List ℕ) × (line ≡ text ++ 10 ∷ []) × Says text what

abbrev pub Reads : List ℕ → Option TraceLine → Type 0
Reads line (Some what) = LineSays line what
Reads line None = (what : TraceLine) → ¬ (LineSays line what)

-- the verdict on a trace
abbrev pub Audits : List ℕ → Verdict → Type 0
Audits bytes v =
    (said : List (Option TraceLine)) × AllZip Reads (lines_of bytes) said × (v ≡ verdict 0 new_audit said)
