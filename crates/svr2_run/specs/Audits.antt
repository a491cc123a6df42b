-- How the audit of a trace ends, as the status of a run, and the one line that it writes.
use Rattle.std.specs.Prelude.{ℕ, ◌≡◌, ◌≤◌, ◌<◌, ◌⊎◌, List, [], ◌∷◌, length, take, codes, decimal, Option, Some}
use Rattle.std.specs.Io.KnownBytes.{Appends, Consumes}
use Rattle.byte_streams.specs.Streams.{AppendsPrefix}
use Rattle.schedule_model.specs.Lines.{line_text}
use Rattle.trace_model.specs.Audit.{Accepts, Audits, Refuses, Verdict, Why, WrongCommit, WrongEnd, WrongGrammar, WrongLog, WrongOutcome, WrongRollbacks}
use Rattle.trace_audit.specs.Ends.{ReadOn}
use Rattle.trace_audit.specs.Fronts.{IsRefused, IsTaken, IsVerdict}
use Rattle.trace_audit.specs.declared.source.TheConstants.{MAX_TRACE}
use Rattle.svr2_run.specs.declared.exit.Status.{Status}
use Rattle.svr2_run.specs.declared.exit.Status.TheVariants as status

-- the word of a reason
abbrev pub reason_word : Why → List ℕ
reason_word WrongGrammar = codes "grammar"
reason_word WrongCommit = codes "commit"
reason_word WrongOutcome = codes "outcome"
reason_word WrongLog = codes "log"
reason_word WrongRollbacks = codes "rollbacks"
reason_word WrongEnd = codes "end"

-- the one line of a verdict: `accept` and how many lines the trace has, or `refuse`, the line that is refused, and why
abbrev pub verdict_line : Verdict → List ℕ
verdict_line (Accepts lines) = line_text (codes "accept" ∷ decimal lines ∷ [])
verdict_line (Refuses line why) = line_text (codes "refuse" ∷ decimal line ∷ reason_word why ∷ [])

-- the source was read to its end, held a trace that is not too long, and this is the verdict on it
pub record IsWholeVerdict (all : List ℕ) (left : Option (List ℕ)) (v : Verdict) : Type 0 where
  pub ended : left ≡ Some []
  pub room : length all ≤ MAX_TRACE
  pub verdict : IsVerdict all v

-- Reading ended at a refusal. The last read gave at most 65,536 bytes, and nothing that was read before it is refused. The lines
-- up to the one named are refused so, among the first bytes that may be read and whatever follows them, or the whole is: all
-- bytes of the source have no other verdict.
pub record IsRefusal (all : List ℕ) (left : Option (List ℕ)) (line : ℕ) (why : Why) : Type 0 where
  pub read : List ℕ
  pub consumed : Consumes (Some all) left read
  pub ahead : ReadOn read
  pub cause : IsRefused line why (take MAX_TRACE read) ⊎ IsWholeVerdict all left (Refuses line why)
  pub only : (other : Verdict) → Audits all other → other ≡ Refuses line why

-- the audit of a source that held all these bytes found this, with what the source has left
abbrev pub Finds : List ℕ → Option (List ℕ) → Verdict → Type 0
Finds all left (Accepts lines) = IsWholeVerdict all left (Accepts lines)
Finds all left (Refuses line why) = IsRefusal all left line why

-- the source failed, and nothing in what was read is refused, nor is it too long
pub record FailedAfter (all : List ℕ) (left : Option (List ℕ)) : Type 0 where
  pub read : List ℕ
  pub consumed : Consumes (Some all) left read
  pub passed : IsTaken read
  pub room : length read ≤ MAX_TRACE

-- More bytes were read than a trace may have: at most a piece more, and nothing among the first is refused.
pub record IsTooLong (all : List ℕ) (left : Option (List ℕ)) : Type 0 where
  pub read : List ℕ
  pub consumed : Consumes (Some all) left read
  pub ahead : ReadOn read
  pub long : MAX_TRACE < length read
  pub passed : IsTaken (take MAX_TRACE read)

-- memory ran out: while the source was read, or for the line of what was found
abbrev pub RanOut : List ℕ → Option (List ℕ) → Type 0
RanOut all left =
    ((read : List ℕ) × Consumes (Some all) left read × ReadOn read) ⊎ ((v : Verdict) × Finds all left v)

-- How the audit ended over a source that held all these bytes, with what the source has left and what the sink gained.
-- At 0 the source was read to its end, the trace is accepted, and the sink gained exactly the line that says so. At 9 the trace is
-- refused, and the sink gained exactly the line that says where and why. After a write fault the sink has first bytes of
-- such a line. A fault of the source, too many bytes and want of memory leave the sink as it was.
abbrev pub AuditsOver : List ℕ → Option (List ℕ) → Option (List ℕ) → Option (List ℕ) → Status → Type 0
AuditsOver all left old new status.Done =
    (lines : ℕ) × Finds all left (Accepts lines) × Appends old new (verdict_line (Accepts lines))
AuditsOver all left old new status.Refused =
    (line : ℕ) × (why : Why) × Finds all left (Refuses line why) × Appends old new (verdict_line (Refuses line why))
AuditsOver all left old new status.WriteFault = (v : Verdict) × Finds all left v × AppendsPrefix old new (verdict_line v)
AuditsOver all left old new status.ReadFault = FailedAfter all left × (new ≡ old)
AuditsOver all left old new status.Limit = IsTooLong all left × (new ≡ old)
AuditsOver all left old new status.Memory = RanOut all left × (new ≡ old)
AuditsOver all left old new status.Usage = ⊥
AuditsOver all left old new status.Schedule = ⊥
AuditsOver all left old new status.FieldFault = ⊥
AuditsOver all left old new status.Frame = ⊥

-- the status of a verdict
abbrev pub status_by : Verdict → Status
status_by (Accepts lines) = status.Done
status_by (Refuses line why) = status.Refused

-- the trace decides the status: it is accepted or refused, and as every verdict on it says
pub record Decides (all : List ℕ) (s : Status) : Type 0 where
  pub told : (s ≡ status.Done) ⊎ (s ≡ status.Refused)
  pub verdict : (v : Verdict) → Audits all v → s ≡ status_by v
