-- What a line that was read says, and how the audit answers it.
use Rattle.std.proofs.Common.{◌≡◌, ℕ, List, [], ◌∷◌, ◌++◌, Some, None, Result, Ok, Err, refl, sym, ◌∙◌, subst}
use Rattle.std.proofs.lemmas.List.{append_cancel_right}
use Rattle.trace_model.specs.Audit.{Audit, LineSays, Why, audited}
use Rattle.trace_model.specs.TraceLines.{Says, TraceLine}
use Rattle.trace_audit.specs.declared.audit.AuditError.{AuditError}
use Rattle.trace_audit.specs.declared.audit.AuditError.TheVariants as error
use Rattle.trace_audit.specs.Fronts.{SaysOnly}
use Rattle.trace_audit.specs.Stands.{Kept, Takes}
use Rattle.trace_audit.specs.Taking.{IsTold, ReadsOnly}
use Rattle.trace_audit.proofs.Fronts.{only_none, only_this}

pub says_only : (text : List ℕ) (what : TraceLine) → Says text what → ((other : TraceLine) → Says text other → what ≡ other) → SaysOnly (text ++ 10 ∷ []) what
says_only text what says same = record { says = (text, refl, says); only = only }
  where
    only : (other : TraceLine) → LineSays (text ++ 10 ∷ []) other → other ≡ what
    only other (part, e, said) = sym (same other (subst (λ (t : List ℕ). Says t other) (sym (append_cancel_right text part (10 ∷ []) e)) said))

pub no_grammar : (text : List ℕ) → ((what : TraceLine) → Says text what → ⊥) → ReadsOnly (text ++ 10 ∷ []) None
no_grammar text none = only_none (text ++ 10 ∷ []) nothing
  where
    nothing : (what : TraceLine) → LineSays (text ++ 10 ∷ []) what → ⊥
    nothing what (part, e, said) = none what (subst (λ (t : List ℕ). Says t what) (sym (append_cancel_right text part (10 ∷ []) e)) said)

pub answered : (r : Result (Unit {0}) AuditError) (a : Audit) (line : List ℕ) (what : TraceLine) (step : Result Audit Why) (kept : Kept) → SaysOnly line what → audited a what ≡ step
    → Takes r step kept → IsTold r a line kept
answered (Ok done) a line what (Ok b) kept says e stands = (what, says, b, e, stands)
answered (Ok done) a line what (Err why) kept says e none = absurd none
answered (Err (error.Wrong why)) a line what step kept says e is = (Some what, only_this line what says, e ∙ is)
answered (Err error.Memory) a line what step kept says e is = tt
