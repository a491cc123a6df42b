-- What the reader of a trace keeps of its first bytes.
use Rattle.std.specs.Prelude.{◌≡◌, ℕ, ◌+◌, ◌<◌, ◌≤◌, ◌==◌, true, slice_index, List, [], length, Option, Some, None, Result, Ok, Err, ⊤}
use Rattle.record_cutting.specs.Lines.{last_part, whole_lines}
use Rattle.trace_model.specs.Audit as model
use Rattle.trace_model.specs.TraceLines.{TraceLine, max_line}
use Rattle.trace_audit.specs.Fronts.{IsRefused, IsVerdict, Passes, SaysOnly}
use Rattle.trace_audit.specs.Stands.{Kept, Stands, why_of}
use Rattle.trace_audit.specs.declared.audit.AuditError.{AuditError}
use Rattle.trace_audit.specs.declared.audit.AuditError.TheVariants as error
use Rattle.trace_audit.specs.declared.source.Audited.{Audited}
use Rattle.trace_audit.specs.declared.source.Audited.TheVariants as audited
use Rattle.trace_audit.specs.declared.source.Front.{Front}

-- what is kept stands for these first bytes: their whole lines were taken, and the rest is the start of a line
pub record IsFront (f : Front) (bytes : List ℕ) : Type 0 where
  pub state : model.Audit
  pub stands : Stands f.audit state
  pub passes : Passes model.new_audit (whole_lines [] bytes) state
  pub lines : f.lines ≡ length (whole_lines [] bytes)
  pub pending : f.pending.items ≡ last_part [] bytes
  pub room : length f.pending.items ≤ max_line

-- none of these bytes is a line feed
abbrev pub IsWithinLine : List ℕ → Type 0
IsWithinLine bytes = (k : ℕ) → k < length bytes → (slice_index bytes k == 10) ≡ true → ⊥

-- what a line says is refused so in a state; a line that says nothing is no grammar
abbrev pub IsWrong : model.Audit → Option TraceLine → model.Why → Type 0
IsWrong a None why = why ≡ model.WrongGrammar
IsWrong a (Some what) why = model.audited a what ≡ Err why

-- a line says this, or nothing
pub record ReadsOnly (line : List ℕ) (said : Option TraceLine) : Type 0 where
  pub reads : model.Reads line said
  pub only : (other : Option TraceLine) → model.Reads line other → other ≡ said

-- what is answered to a whole line in a state, and what the audit is then
abbrev pub IsTold : Result (Unit {0}) AuditError → model.Audit → List ℕ → Kept → Type 0
IsTold (Ok done) a line kept =
    (what : TraceLine) × SaysOnly line what × (b : model.Audit) × (model.audited a what ≡ Ok b) × Stands kept b
IsTold (Err (error.Wrong why)) a line kept = (said : Option TraceLine) × ReadsOnly line said × IsWrong a said (why_of why)
IsTold (Err error.Memory) a line kept = ⊤

-- what is answered to bytes that these first bytes end with, and what is kept then
abbrev pub TakesBytes : Result (Unit {0}) AuditError → Front → List ℕ → Type 0
TakesBytes (Ok done) f bytes = IsFront f bytes
TakesBytes (Err (error.Wrong why)) f bytes = IsRefused (f.lines + 1) (why_of why) bytes
TakesBytes (Err error.Memory) f bytes = ⊤

-- the verdict that is answered on all bytes
abbrev pub Finishes : Audited → List ℕ → Type 0
Finishes (audited.Accepts n) bytes = IsVerdict bytes (model.Accepts n)
Finishes (audited.Refuses n why) bytes = IsVerdict bytes (model.Refuses n (why_of why))
Finishes other bytes = ⊥
