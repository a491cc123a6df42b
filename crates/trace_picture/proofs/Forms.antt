-- What an answer to a line tells of its form.
use Rattle.std.proofs.Common.{◌≡◌, ◌∙◌, Bool, true, false, ℕ, List, [], ◌∷◌, ◌++◌, Result, Ok, Err, inl, inr, sym, subst}
use Rattle.std.specs.Bool.{Decides}
use Rattle.std.specs.Prelude.{IfErr}
use Rattle.std.proofs.lemmas.List.{append_cancel_right}
use Rattle.trace_model.specs.TraceLines.{Says, TraceLine}
use Rattle.trace_lines.specs.Meant.{Tells}
use Rattle.trace_lines.specs.declared.line.LineError.{LineError}
use Rattle.trace_lines.specs.declared.line.LineError.TheVariants as errors
use Rattle.trace_picture.specs.Forms.{HasForm, IsGaveUp}
use Rattle.trace_picture.specs.Taking.{IsTold}

pub no_form : (text : List ℕ) → ((what : TraceLine) → Says text what → ⊥) → (IsGaveUp (text ++ 10 ∷ []) → ⊥) → HasForm (text ++ 10 ∷ []) → ⊥
no_form text none other (inl (what, (part, e, said))) = none what (subst (λ (t : List ℕ). Says t what) (sym (append_cancel_right text part (10 ∷ []) e)) said)
no_form text none other (inr g) = other g

-- the line was not read
pub answered_error : (text : List ℕ) (e : LineError) → (IsGaveUp (text ++ 10 ∷ []) → ⊥) → ((what : TraceLine) → Says text what → Tells (Err e) what) → IsTold (Err e) (text ++ 10 ∷ [])
answered_error text errors.Memory other only = tt
answered_error text errors.Grammar other only = no_form text only other

-- it has a form, and was taken unless memory ran out
pub answered_taken : (line : List ℕ) (r : Result (Unit {0}) LineError) → IfErr r (λ e. e ≡ errors.Memory) → HasForm line → IsTold r line
answered_taken line (Ok done) memory has = has
answered_taken line (Err errors.Memory) memory has = tt
answered_taken line (Err errors.Grammar) memory has = absurd cc

pub not_so : {P : Type 0} (r : Bool) → r ≡ false → Decides r P → P → ⊥
not_so r fails decided p = absurd (let both : true ≡ false = sym (decided.1 p) ∙ fails in cc both)
