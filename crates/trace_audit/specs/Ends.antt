-- How the audit of a source ends.
use Rattle.std.specs.Prelude.{◌≡◌, ℕ, ◌≤◌, ◌<◌, ◌⊎◌, List, ◌++◌, length, take, Option}
use Rattle.std.specs.Io.KnownBytes.{IsAtEnd}
use Rattle.trace_model.specs.Audit as model
use Rattle.trace_audit.specs.Fronts.{IsRefused, IsTaken, IsVerdict}
use Rattle.trace_audit.specs.Stands.{why_of}
use Rattle.trace_audit.specs.declared.source.Audited.{Audited}
use Rattle.trace_audit.specs.declared.source.Audited.TheVariants as audited
use Rattle.byte_streams.specs.declared.streams.TheConstants.{PIECE}
use Rattle.trace_audit.specs.declared.source.TheConstants.{MAX_TRACE}

-- The last read gave at most a piece. Nothing in what was read before it is refused, nor is it too long for a trace.
pub record ReadOn (taken : List ℕ) : Type 0 where
  pub before : List ℕ
  pub piece : List ℕ
  pub parts : taken ≡ before ++ piece
  pub short : length piece ≤ PIECE
  pub passed : IsTaken before
  pub room : length before ≤ MAX_TRACE

-- the source was read to its end, and this is the verdict on what it held
pub record IsJudged (taken : List ℕ) (left : Option (List ℕ)) (v : model.Verdict) : Type 0 where
  pub ended : IsAtEnd left
  pub room : length taken ≤ MAX_TRACE
  pub verdict : IsVerdict taken v

-- how the audit of a source ended of which these bytes were taken, with what it has left
abbrev pub EndsAfter : List ℕ → Option (List ℕ) → Audited → Type 0
EndsAfter taken left (audited.Accepts n) = IsJudged taken left (model.Accepts n)
EndsAfter taken left (audited.Refuses n why) =
    ReadOn taken × (IsRefused n (why_of why) (take MAX_TRACE taken) ⊎ IsJudged taken left (model.Refuses n (why_of why)))
EndsAfter taken left audited.ReadFault = IsTaken taken × (length taken ≤ MAX_TRACE)
EndsAfter taken left audited.Limit = ReadOn taken × (MAX_TRACE < length taken) × IsTaken (take MAX_TRACE taken)
EndsAfter taken left audited.Memory = ReadOn taken
