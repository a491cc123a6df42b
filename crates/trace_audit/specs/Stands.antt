-- What an audit keeps, and the state of the auditor for which it stands.
use Rattle.std.specs.Prelude.{◌≡◌, ℕ, ◌≤◌, ◌+◌, [], Option, Some, None, Result, Ok, Err, IsOk, ⊤}
use Rattle.values.specs.declared.event.Event.{Event}
use Rattle.values.specs.declared.event.Event.TheVariants as event
use Rattle.values.specs.declared.limits.TheConstants.{MOST_ROWS}
use Rattle.replica_model.specs.Path.{Path}
use Rattle.group_model.specs.Group.{Setup}
use Rattle.trace_model.specs.Audit as model
use Rattle.trace_model.specs.TraceLines as lines
use Rattle.trace_audit.specs.declared.audit.AuditError.{AuditError}
use Rattle.trace_audit.specs.declared.audit.AuditError.TheVariants as error
use Rattle.trace_audit.specs.declared.audit.Why.{Why}
use Rattle.trace_audit.specs.declared.audit.Why.TheVariants as why
use Rattle.trace_audit.specs.declared.closing.Stage.{Stage}
use Rattle.trace_audit.specs.declared.closing.Stage.TheVariants as stage
use Rattle.trace_audit.specs.Books.{KeptBook}
use Rattle.trace_audit.specs.Bounds.{KeptBound, StandsBound}

abbrev pub stage_of : Stage → model.Stage
stage_of stage.Playing = model.Playing
stage_of stage.AfterLog = model.AfterLog
stage_of stage.AfterRollbacks = model.AfterRollbacks
stage_of stage.Over = model.Over

abbrev pub why_of : Why → model.Why
why_of why.Grammar = model.WrongGrammar
why_of why.Commit = model.WrongCommit
why_of why.Outcome = model.WrongOutcome
why_of why.Log = model.WrongLog
why_of why.Rollbacks = model.WrongRollbacks
why_of why.End = model.WrongEnd

-- where the trace stands; the book, once the trace has begun; and what the rollback bound needs
pub record Kept : Type 0 where
  pub stage : model.Stage
  pub book : Option KeptBook
  pub bound : KeptBound

abbrev pub StandsBook : Option KeptBook → Option Setup → Path → Type 0
StandsBook None None entries = entries ≡ []
StandsBook None (Some setup) entries = ⊥
StandsBook (Some book) None entries = ⊥
StandsBook (Some book) (Some setup) entries = (book.limit ≡ setup.limit) × (book.entries ≡ entries)

-- the book that a begin opens
abbrev pub begun_by : Option KeptBook → Event → Option KeptBook
begun_by book (event.Begin margin limit voters) = Some (record { limit = limit; entries = [] })
begun_by book e = book

-- an audit stands for this state
pub record Stands (a : Kept) (state : model.Audit) : Type 0 where
  pub stage : a.stage ≡ state.stage
  pub book : StandsBook a.book state.setup state.book
  pub bound : StandsBound a.bound state.confs state.rolled state.rolling

-- a begin's limit is in range
abbrev pub IsPlayable : lines.TraceLine → Type 0
IsPlayable (lines.EventLine number (event.Begin margin limit voters)) = (1 ≤ limit) × (limit ≤ MOST_ROWS)
IsPlayable line = ⊤

-- what is answered to a line, of which the auditor makes this, and what the audit is then. Want of memory hides no refusal
abbrev pub Takes : Result (Unit {0}) AuditError → Result model.Audit model.Why → Kept → Type 0
Takes (Ok done) (Ok state) a = Stands a state
Takes (Ok done) (Err why) a = ⊥
Takes (Err (error.Wrong why)) step a = step ≡ Err (why_of why)
Takes (Err error.Memory) step a = IsOk step

-- what is answered at the end of so many lines
abbrev pub verdict_of : ℕ → Result (Unit {0}) Why → model.Verdict
verdict_of n (Ok done) = model.Accepts n
verdict_of n (Err why) = model.Refuses (n + 1) (why_of why)

-- why a line is refused, as it is told
abbrev pub fault_told : Result (Unit {0}) Why → Option model.Why
fault_told (Ok done) = None
fault_told (Err why) = Some (why_of why)
