-- What the first bytes of a trace tell of the whole.
use Rattle.std.specs.Prelude.{◌≡◌, ℕ, ◌≤◌, List, [], ◌∷◌, ◌++◌, length, take, Option, Ok}
use Rattle.std.specs.List.{AllZip}
use Rattle.record_cutting.specs.Lines.{last_part, lines_of, whole_lines}
use Rattle.trace_model.specs.Audit.{Audit, Audits, LineSays, Reads, Refuses, Verdict, Why, audited, new_audit, verdict}
use Rattle.trace_model.specs.TraceLines.{TraceLine, max_line}

-- this is the verdict on a trace, and it has no other
pub record IsVerdict (bytes : List ℕ) (v : Verdict) : Type 0 where
  pub is : Audits bytes v
  pub only : (w : Verdict) → Audits bytes w → w ≡ v

-- what the first n lines of a trace say is refused at line n
abbrev pub RefusesFirst : ℕ → Why → List ℕ → Type 0
RefusesFirst n why bytes =
    (said : List (Option TraceLine)) × AllZip Reads (take n (lines_of bytes)) said × (verdict 0 new_audit said ≡ Refuses n why)

-- whatever follows these bytes, the first n lines are refused so, and no other verdict on the whole can be
pub record IsRefused (n : ℕ) (why : Why) (front : List ℕ) : Type 0 where
  pub first : (rest : List ℕ) → RefusesFirst n why (front ++ rest)
  pub only : (rest : List ℕ) (w : Verdict) → Audits (front ++ rest) w → w ≡ Refuses n why

-- a line says this, and nothing else
pub record SaysOnly (line : List ℕ) (what : TraceLine) : Type 0 where
  pub says : LineSays line what
  pub only : (other : TraceLine) → LineSays line other → other ≡ what

-- the auditor takes these lines one after the other, from one state to another
abbrev pub Passes : Audit → List (List ℕ) → Audit → Type 0
Passes a [] b = a ≡ b
Passes a (line ∷ lines) b =
    (what : TraceLine) × SaysOnly line what × (c : Audit) × (audited a what ≡ Ok c) × Passes c lines b

-- no line that ends within these bytes is refused, and what follows the last of them is not too long for a line
pub record IsTaken (bytes : List ℕ) : Type 0 where
  pub state : Audit
  pub passes : Passes new_audit (whole_lines [] bytes) state
  pub room : length (last_part [] bytes) ≤ max_line
