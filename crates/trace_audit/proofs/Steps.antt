-- The auditor's step is the one by its two parts.
use Rattle.std.proofs.Common.{◌≡◌, ℕ, ◌+◌, Bool, true, false, [], ◌++◌, length, Option, Some, None, Result, Ok, Err, refl, ap}
use Rattle.std.specs.Prelude.{◌==◌, if◌then◌else◌}
use Rattle.std.specs.List.{list_all}
use Rattle.values.specs.declared.entry.LogEntry.{LogEntry}
use Rattle.values.specs.declared.event.Event.{Event}
use Rattle.values.specs.declared.event.Event.TheVariants as event
use Rattle.replica_model.specs.Path.{Path, entry_at}
use Rattle.values.specs.declared.ids.ClientId.{ClientId}
use Rattle.values.specs.declared.message.Reply.{Reply}
use Rattle.group_model.specs.Group.{Setup, bears}
use Rattle.trace_model.specs.Audit.{Audit, Stage, Playing, AfterLog, AfterRollbacks, Over, Why, WrongGrammar, WrongCommit, WrongOutcome, WrongLog, WrongRollbacks, WrongEnd, is_misplaced, same_bool, same_entry, require, committed, commit_told, outcome_told, audited, staged, told, settled_roll}
use Rattle.trace_model.specs.TraceLines.{TraceLine, EventLine, Commit, Outcome, Members, Refused, LogEnd, Rollbacks, End, Stopped, Other}
use Rattle.trace_audit.specs.Steps.{takes, only, added, is_commit, is_outcome, kind_fault, fault, after, step_by}
use Rattle.trace_audit.specs.Books.{fits_place, answers}

-- a check passes or not on both sides
require_is : (a : Audit) (line : TraceLine) (b : Bool) (why : Why) (s : Audit) → s ≡ after a line → require b why s ≡ step_by a line (only b why)
require_is a line true why s e = ap Ok e
require_is a line false why s e = refl

-- an event line
event_is : (a : Audit) (n : ℕ) (what : Event) → told (settled_roll a (EventLine n what)) (EventLine n what) ≡ Ok (after a (EventLine n what))
event_is a n (event.Begin margin limit voters) = refl
event_is a n (event.Roll r k) = refl
event_is a n (event.Start r) = refl
event_is a n (event.Tick r) = refl
event_is a n (event.Deliver m) = refl
event_is a n (event.Lose m) = refl
event_is a n (event.Settle m) = refl
event_is a n (event.Crash r) = refl
event_is a n (event.Save r) = refl
event_is a n (event.Join r i) = refl
event_is a n (event.Admit r i) = refl
event_is a n (event.Remove r i) = refl
event_is a n (event.Ask r c m q) = refl
event_is a n (event.Want c w) = refl
event_is a n (event.Say c r) = refl
event_is a n (event.Hear c m) = refl
event_is a n (event.Margin r m) = refl
event_is a n (event.Again c) = refl

-- a commit, by what stands at its index
with_book : Audit → Path → Audit
with_book a book = record { stage = a.stage; setup = a.setup; book = book; confs = a.confs; rolled = a.rolling ++ a.rolled; rolling = [] }

committed_is : (a : Audit) (r index : ℕ) (e : LogEntry) (o : Option LogEntry) → o ≡ entry_at a.book index
    → committed (settled_roll a (Commit r index e)) index e o ≡ step_by a (Commit r index e) (only (fits_place o (length a.book) index e) WrongCommit)
unfolding with_book
committed_is a r index e (Some kept) at =
    require_is a (Commit r index e) (same_entry kept e) WrongCommit (settled_roll a (Commit r index e)) (ap (λ (o : Option LogEntry). with_book a (added a.book e o)) at)
committed_is a r index e None at =
    require_is a (Commit r index e) (index == length a.book + 1) WrongCommit _ (ap (λ (o : Option LogEntry). with_book a (added a.book e o)) at)

commit_is : (a : Audit) (r index : ℕ) (e : LogEntry) (setup : Option Setup)
    → commit_told (settled_roll a (Commit r index e)) setup index e ≡ step_by a (Commit r index e) (only (is_commit setup a.book index e) WrongCommit)
commit_is a r index e None = refl
commit_is a r index e (Some setup) = committed_is a r index e (entry_at a.book index) refl

outcome_is : (a : Audit) (c : ClientId) (n index : ℕ) (what : Reply) (setup : Option Setup)
    → outcome_told (settled_roll a (Outcome c n index what)) setup c n index what
    ≡ step_by a (Outcome c n index what) (only (is_outcome setup a.book c n index what) WrongOutcome)
outcome_is a c n index what None = refl
outcome_is a c n index what (Some setup) =
    require_is a (Outcome c n index what) (answers setup.limit a.book c n index what) WrongOutcome (settled_roll a (Outcome c n index what)) refl

told_is : (a : Audit) (line : TraceLine) → staged (settled_roll a line) Playing line ≡ step_by a line (if takes Playing line then kind_fault a line else Some WrongEnd)
told_is a (EventLine n what) = event_is a n what
told_is a (Commit r index e) = commit_is a r index e a.setup
told_is a (Outcome c n index what) = outcome_is a c n index what a.setup
told_is a (Members margin voters) = refl
told_is a Refused = refl
told_is a (LogEnd n) = require_is a (LogEnd n) (n == length a.book) WrongLog _ refl
told_is a (Rollbacks within) = refl
told_is a End = refl
told_is a Stopped = refl
told_is a Other = refl

after_log_is : (a : Audit) (line : TraceLine) → staged (settled_roll a line) AfterLog line ≡ step_by a line (if takes AfterLog line then kind_fault a line else Some WrongEnd)
after_log_is a (Rollbacks within) =
    require_is a (Rollbacks within) (same_bool within (list_all (bears (a.rolling ++ a.rolled)) a.confs)) WrongRollbacks _ refl
after_log_is a (EventLine n what) = refl
after_log_is a (Commit r index e) = refl
after_log_is a (Outcome c n index what) = refl
after_log_is a (Members margin voters) = refl
after_log_is a Refused = refl
after_log_is a (LogEnd n) = refl
after_log_is a End = refl
after_log_is a Stopped = refl
after_log_is a Other = refl

after_rollbacks_is : (a : Audit) (line : TraceLine)
    → staged (settled_roll a line) AfterRollbacks line ≡ step_by a line (if takes AfterRollbacks line then kind_fault a line else Some WrongEnd)
after_rollbacks_is a (EventLine n what) = refl
after_rollbacks_is a (Commit r index e) = refl
after_rollbacks_is a (Outcome c n index what) = refl
after_rollbacks_is a (Members margin voters) = refl
after_rollbacks_is a Refused = refl
after_rollbacks_is a (LogEnd n) = refl
after_rollbacks_is a (Rollbacks within) = refl
after_rollbacks_is a End = refl
after_rollbacks_is a Stopped = refl
after_rollbacks_is a Other = refl

staged_is : (a : Audit) (line : TraceLine) (stage : Stage) → staged (settled_roll a line) stage line ≡ step_by a line (if takes stage line then kind_fault a line else Some WrongEnd)
staged_is a line Playing = told_is a line
staged_is a line AfterLog = after_log_is a line
staged_is a line AfterRollbacks = after_rollbacks_is a line
staged_is a line Over = refl

-- misplaced or not
misplaced_is : (a : Audit) (line : TraceLine) (b : Bool) (r : Result Audit Why) (f : Option Why) → r ≡ step_by a line f
    → (if b then Err WrongGrammar else r) ≡ step_by a line (if b then Some WrongGrammar else f)
misplaced_is a line true r f e = refl
misplaced_is a line false r f e = e

-- so of every line
pub step_is : (a : Audit) (line : TraceLine) → audited a line ≡ step_by a line (fault a line)
step_is a (EventLine n what) = misplaced_is a (EventLine n what) (is_misplaced a.setup (EventLine n what)) _ _ (staged_is a (EventLine n what) a.stage)
step_is a (Commit r index e) = misplaced_is a (Commit r index e) (is_misplaced a.setup (Commit r index e)) _ _ (staged_is a (Commit r index e) a.stage)
step_is a (Outcome c n index what) = misplaced_is a (Outcome c n index what) (is_misplaced a.setup (Outcome c n index what)) _ _ (staged_is a (Outcome c n index what) a.stage)
step_is a (Members margin voters) = misplaced_is a (Members margin voters) (is_misplaced a.setup (Members margin voters)) _ _ (staged_is a (Members margin voters) a.stage)
step_is a Refused = misplaced_is a Refused (is_misplaced a.setup Refused) _ _ (staged_is a Refused a.stage)
step_is a (LogEnd n) = misplaced_is a (LogEnd n) (is_misplaced a.setup (LogEnd n)) _ _ (staged_is a (LogEnd n) a.stage)
step_is a (Rollbacks within) = misplaced_is a (Rollbacks within) (is_misplaced a.setup (Rollbacks within)) _ _ (staged_is a (Rollbacks within) a.stage)
step_is a End = misplaced_is a End (is_misplaced a.setup End) _ _ (staged_is a End a.stage)
step_is a Stopped = misplaced_is a Stopped (is_misplaced a.setup Stopped) _ _ (staged_is a Stopped a.stage)
step_is a Other = misplaced_is a Other (is_misplaced a.setup Other) _ _ (staged_is a Other a.stage)
