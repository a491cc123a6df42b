-- What is read of a line is what it says, and what it says is read.
use Rattle.std.proofs.Common.{◌≡◌, ℕ, ◌≤◌, Bool, true, false, Some, None, Result, Ok, Err, List, [], ◌∷◌, length, refl, sym, ap, subst, ◌∙◌}
use Rattle.std.specs.Prelude.{IfOk, IsTrue, nat_le}
use Rattle.std.specs.List.{AllByRecursion, list_all}
use Rattle.std.proofs.lemmas.Bool.{cond-true, leb-true}
use Rattle.std.proofs.lemmas.Option.{none-some, same_Some}
use Rattle.schedule_model.specs.Lines.{Line}
use Rattle.trace_model.specs.TraceLines as model
use Rattle.trace_model.specs.TraceLines.{FieldsArePlain, Form, EventForm, RefusedForm, RefusedByGroup, LeadForm, MembersForm, HaltForm, TakenForm, CommitForm, AnswerForm, SentForm, SavedForm, ClientForm, LogForm, RollbacksForm, EndForm, StoppedAtRecord, StoppedAtLimit, StoppedAtFrame, IsText, Says, form_fields, is_plain, joined, max_line, said_by}
use Rattle.trace_lines.specs.declared.line.LineError.{LineError}
use Rattle.trace_lines.specs.declared.line.LineError.TheVariants as errors
use Rattle.trace_lines.specs.declared.line.TraceLine.{TraceLine}
use Rattle.trace_lines.specs.Lines.{cut, fields_in, line_in}
use Rattle.trace_lines.specs.Meant.{GivesLine, Tells, meant}
use Rattle.trace_lines.proofs.Cutting.{cut_joined, joined_cut}
use Rattle.trace_lines.proofs.Forms.{fields_found}
use Rattle.trace_lines.proofs.Only.{fields_only}
use Rattle.trace_lines.proofs.Requests.{RequestsAgain}
use Rattle.trace_lines.proofs.Responses.{ResponsesAgain}
use Rattle.trace_lines.proofs.Steps.{chosen}

line_found : (text : List ℕ) (what : model.TraceLine) → line_in text ≡ Some what → Says text what
line_found text what is =
    let c = chosen (nat_le (length text) max_line) (fields_in (cut text)) what is in
    let f = fields_found (cut text) what c.1 in
    (f.form, record { short = c.0; printed = sym (joined_cut text) ∙ ap joined f.printed; in_range = f.in_range }, f.says)

abbrev starts : Line → Bool
starts [] = false
starts (x ∷ xs) = true

cut_fields : (fields : Line) → AllByRecursion (λ (field : List ℕ). IsTrue (list_all is_plain field)) fields → starts fields ≡ true → cut (joined fields) ≡ fields
cut_fields [] h some = cc some
cut_fields (x ∷ fields) h some = cut_joined x fields h

form_starts : (f : Form) → starts (form_fields f) ≡ true
form_starts (EventForm n e) = refl
form_starts (RefusedForm r) = refl
form_starts (RefusedByGroup r) = refl
form_starts (LeadForm r t) = refl
form_starts (MembersForm r i m v) = refl
form_starts (HaltForm r i k o) = refl
form_starts (TakenForm r a) = refl
form_starts (CommitForm r i e) = refl
form_starts (AnswerForm n r c a w) = refl
form_starts (SentForm n f t m) = refl
form_starts (SavedForm r k) = refl
form_starts (ClientForm c w) = refl
form_starts (LogForm n) = refl
form_starts (RollbacksForm w) = refl
form_starts (EndForm a b c) = refl
form_starts (StoppedAtRecord n f) = refl
form_starts (StoppedAtLimit w) = refl
form_starts StoppedAtFrame = refl

cut_form : FieldsArePlain → (f : Form) → cut (joined (form_fields f)) ≡ form_fields f
cut_form plain f = cut_fields (form_fields f) (plain f) (form_starts f)

line_only : FieldsArePlain → RequestsAgain → ResponsesAgain → (text : List ℕ) (what : model.TraceLine) → Says text what → line_in text ≡ Some what
line_only plain requests responses text what (f, is, says) =
    let short = leb-true (length text) max_line is.short in
    cond-true (nat_le (length text) max_line) (fields_in (cut text)) None is.short
    ∙ ap (λ t. fields_in (cut t)) is.printed
    ∙ ap fields_in (cut_form plain f)
    ∙ fields_only requests responses f is.in_range (subst (λ t. length t ≤ max_line) is.printed short)
    ∙ ap Some says

pub found : (text : List ℕ) (result : Result TraceLine LineError) → GivesLine result (line_in text) → IfOk result (λ read. Says text (meant read))
found text (Ok read) gives = line_found text (meant read) gives
found text (Err e) gives = tt

pub only : FieldsArePlain → RequestsAgain → ResponsesAgain → (text : List ℕ) (result : Result TraceLine LineError) → GivesLine result (line_in text) → (what : model.TraceLine) → Says text what → Tells result what
only plain requests responses text (Ok read) gives what says = same_Some (meant read) what (sym gives ∙ line_only plain requests responses text what says)
only plain requests responses text (Err errors.Memory) gives what says = tt
only plain requests responses text (Err errors.Grammar) gives what says = absurd (none-some what (sym gives ∙ line_only plain requests responses text what says))
