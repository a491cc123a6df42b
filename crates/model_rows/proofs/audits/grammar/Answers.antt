use Rattle.std.proofs.Common.{◌≡◌, ℕ, true, List, [], ◌∷◌, ◌++◌, Option, Some, None, refl, sym, subst, arith}
use Rattle.std.specs.Prelude.{IsTrue, nat_le, length, replicate}
use Rattle.std.specs.List.{AllZip}
use Rattle.std.proofs.lemmas.List.{append_cancel_right}
use Rattle.values.specs.declared.entry.Body.TheVariants.{Noop, Ask}
use Rattle.values.specs.declared.entry.Hash.{Hash}
use Rattle.values.specs.declared.entry.LogEntry.{LogEntry}
use Rattle.values.specs.declared.event.Event.TheVariants as event
use Rattle.values.specs.declared.message.Answer.TheVariants as answer
use Rattle.values.specs.declared.message.Reply.TheVariants.{Applied}
use Rattle.values.specs.declared.message.Request.{Request}
use Rattle.values.specs.declared.message.Request.TheVariants as request
use Rattle.values.specs.declared.message.Response.TheVariants.{Backup}
use Rattle.client_msgs.specs.Canonical.{canonical_request}
use Rattle.record_cutting.specs.Lines.{lines_of}
use Rattle.model_rows.specs.Shown.{bytes_of}
use Rattle.trace_model.specs.Audit.{LineSays, Reads}
use Rattle.trace_model.specs.TraceLines.{Form, EventForm, LeadForm, CommitForm, AnswerForm, LogForm, RollbacksForm, EndForm, TraceLine, InRange, Says, form_fields, joined, max_line, said_by}
use Rattle.model_rows.specs.Audits.{client}
use Rattle.model_rows.specs.Grammar.{before_commit, commit_line, answer_line, ending, wide_answer, odd_commit}
use Rattle.model_rows.proofs.Computing.{computing}
use Rattle.model_rows.proofs.Grammar.{wide_says_nothing, odd_says_nothing}
use Rattle.model_rows.proofs.audits.grammar.Goals as goal

abbrev pin : Hash
pin = record { 0 = replicate 32 17 }

abbrev backup : Request
backup = request.Backup (replicate 16 170) pin 3

abbrev noop : LogEntry
noop = record { term = 1; body = Noop }

abbrev asked : LogEntry
asked = record { term = 1; body = Ask client 1 (canonical_request backup) }

-- a line of a form in range says it
fine : (form : Form) → IsTrue (nat_le (length (joined (form_fields form))) max_line) → InRange form → Reads (joined (form_fields form) ++ 10 ∷ []) (Some (said_by form))
fine form short in_range = (joined (form_fields form), refl, (form, record { short = short; printed = refl; in_range = in_range }, refl))

-- a text that says nothing
same_text : (xs ys : List ℕ) → xs ++ 10 ∷ [] ≡ ys ++ 10 ∷ [] → xs ≡ ys
same_text xs ys is = append_cancel_right xs ys (10 ∷ []) is

nothing : (text : List ℕ) → ((what : TraceLine) → Says text what → ⊥) → Reads (text ++ 10 ∷ []) None
nothing text none what said = none what (subst (λ (t : List ℕ). Says t what) (sym (same_text text said.0 said.1)) said.2)

abbrev begins : Form
begins = EventForm 1 (event.Begin 0 100 (1 ∷ []))

abbrev ticks : Form
ticks = EventForm 2 (event.Tick 1)

abbrev asks : Form
asks = EventForm 3 (event.Ask 1 client 1 (canonical_request backup))

abbrev commits : Form
commits = CommitForm 1 2 asked

abbrev answers : Form
answers = AnswerForm 1 1 client 1 (answer.Outcome 2 (Applied (Backup 1)))

asked_in : InRange commits
unfolding computing
asked_in = (refl, (refl, (backup, (((omega arith, omega arith), (omega arith, omega arith)), (refl, refl)))))

abbrev told : Form → Option TraceLine
told form = Some (said_by form)

-- the lines before the commit, and those after the answer
abbrev before : List (Option TraceLine)
before = told begins ∷ told ticks ∷ told (LeadForm 1 1) ∷ told (CommitForm 1 1 noop) ∷ told asks ∷ []

abbrev after : List (Option TraceLine)
after = told (LogForm 2) ∷ told (RollbacksForm true) ∷ told (EndForm 3 0 1) ∷ []

all_before : (lines : List (List ℕ)) (said : List (Option TraceLine)) → AllZip Reads lines said → AllZip Reads (lines_of (bytes_of before_commit) ++ lines) (before ++ said)
unfolding computing
all_before lines said rest = (fine begins refl (refl, (tt, refl)), (fine ticks refl (refl, (tt, refl)), (fine (LeadForm 1 1) refl refl, (fine (CommitForm 1 1 noop) refl (refl, tt), (fine asks refl (refl, (tt, refl)), rest)))))

all_after : AllZip Reads (lines_of (bytes_of ending)) after
unfolding computing
all_after = (fine (LogForm 2) refl refl, (fine (RollbacksForm true) refl tt, (fine (EndForm 3 0 1) refl refl, tt)))

pub returns-clause-whole : goal.returns-clause-whole
unfolding computing
returns-clause-whole c =
    let lines : List (List ℕ) = lines_of (bytes_of (commit_line ∷ answer_line ∷ ending)) in
    let rest : AllZip Reads lines (told commits ∷ told answers ∷ after) = (fine commits refl asked_in, (fine answers refl refl, all_after)) in
    (before ++ told commits ∷ told answers ∷ after, all_before lines (told commits ∷ told answers ∷ after) rest, refl)

pub returns-clause-wide_status : goal.returns-clause-wide_status
unfolding computing
returns-clause-wide_status c =
    let lines : List (List ℕ) = lines_of (bytes_of (commit_line ∷ [])) ++ (wide_answer ++ 10 ∷ []) ∷ lines_of (bytes_of ending) in
    let none : Reads (wide_answer ++ 10 ∷ []) None = nothing wide_answer (wide_says_nothing c.responses_are_read_again.ensures c.fields_are_plain.ensures) in
    let rest : AllZip Reads lines (told commits ∷ None ∷ after) = (fine commits refl asked_in, (none, all_after)) in
    (before ++ told commits ∷ None ∷ after, all_before lines (told commits ∷ None ∷ after) rest, refl)

pub returns-clause-odd_request : goal.returns-clause-odd_request
unfolding computing
returns-clause-odd_request c =
    let lines : List (List ℕ) = (odd_commit ++ 10 ∷ []) ∷ lines_of (bytes_of (answer_line ∷ ending)) in
    let none : Reads (odd_commit ++ 10 ∷ []) None = nothing odd_commit (odd_says_nothing c.fields_are_plain.ensures) in
    let rest : AllZip Reads lines (None ∷ told answers ∷ after) = (none, (fine answers refl refl, all_after)) in
    (before ++ None ∷ told answers ∷ after, all_before lines (None ∷ told answers ∷ after) rest, refl)
