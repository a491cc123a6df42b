-- Lines that tell of no halt.
use Rattle.std.proofs.Common.{◌≡◌, ℕ, Option, Some, None, List, [], ◌∷◌, ◌++◌, map, refl, sym, ap, ◌∙◌, append-nil, append_assoc}
use Rattle.std.specs.List.{AllByRecursion, enumerate_from}
use Rattle.values.specs.declared.batch.Batch.{Batch}
use Rattle.values.specs.declared.entry.LogEntry.{LogEntry}
use Rattle.values.specs.declared.entry.Hash.{Hash}
use Rattle.values.specs.declared.ids.ClientId.{ClientId}
use Rattle.values.specs.declared.message.Answer.{Answer}
use Rattle.values.specs.declared.peer.PeerMsg.{PeerMsg}
use Rattle.schedule_model.specs.Lines.{Line, lines_text, line_text, refused_line, refusal_fields, item_line, batch_lines, lead_line, members_line, halt_line, taken_line, commit_line, answer_line, sent_line, saved_line}
use Rattle.log_laws.proofs.Ending.{all-append}
use Rattle.trace_model.specs.TraceLines.{Form, form_fields, RefusedForm, LeadForm, MembersForm, TakenForm, CommitForm, AnswerForm, SentForm, SavedForm}
use Rattle.headline_laws.specs.HaltLines.{TellsNoHalt, IsWithoutHalt}

-- lines of forms that tell of no halt
abbrev pub AreWithoutHalt : List Line → Type 0
AreWithoutHalt lines = (forms : List Form) × (lines ≡ map form_fields forms) × AllByRecursion TellsNoHalt forms

pub map_append : {A B : Type 0} (f : A → B) (xs ys : List A) → map f (xs ++ ys) ≡ map f xs ++ map f ys
map_append f [] ys = refl
map_append f (x ∷ xs) ys = ap (λ zs. f x ∷ zs) (map_append f xs ys)

pub text_append : (xs ys : List Line) → lines_text (xs ++ ys) ≡ lines_text xs ++ lines_text ys
text_append [] ys = refl
text_append (x ∷ xs) ys = ap (λ t. line_text x ++ t) (text_append xs ys) ∙ sym (append_assoc (line_text x) (lines_text xs) (lines_text ys))

pub lines_nil : AreWithoutHalt []
lines_nil = ([], refl, tt)

pub lines_cat : (xs ys : List Line) → AreWithoutHalt xs → AreWithoutHalt ys → AreWithoutHalt (xs ++ ys)
lines_cat xs ys a b = (
  a.0 ++ b.0,
  ap (λ x. x ++ ys) a.1 ∙ (ap (λ y. map form_fields a.0 ++ y) b.1 ∙ sym (map_append form_fields a.0 b.0)),
  all-append TellsNoHalt a.0 b.0 a.2 b.2,
)

pub line_one : (form : Form) (rest : List Line) → TellsNoHalt form → AreWithoutHalt rest → AreWithoutHalt (form_fields form ∷ rest)
line_one form rest fine b = (form ∷ b.0, ap (λ ls. form_fields form ∷ ls) b.1, (fine, b.2))

-- lines of items, each by its form
lines_map : {A : Type 0} (line : A → Line) (form : A → Form) → ((x : A) → form_fields (form x) ≡ line x) → ((x : A) → TellsNoHalt (form x)) → (xs : List A) → AreWithoutHalt (map line xs)
lines_map line form is fine [] = lines_nil
lines_map line form is fine (x ∷ xs) =
    let rest = lines_map line form is fine xs in
    (form x ∷ rest.0, ap (λ l. l ∷ map line xs) (sym (is x)) ∙ ap (λ ls. form_fields (form x) ∷ ls) rest.1, (fine x, rest.2))

lines_item : {A : Type 0} (line : A → Line) (form : A → Form) → ((x : A) → form_fields (form x) ≡ line x) → ((x : A) → TellsNoHalt (form x)) → (o : Option A) → AreWithoutHalt (item_line line o)
lines_item line form is fine None = lines_nil
lines_item line form is fine (Some x) = lines_map line form is fine (x ∷ [])

-- the lines of a batch that tells no halt
pub batch_calm : (r first_message first_answer : ℕ) (b : Batch) → b.halt ≡ None → AreWithoutHalt (batch_lines r first_message first_answer b)
batch_calm r first_message first_answer b none =
    lines_cat _ _ (lines_item (lead_line r) (LeadForm r) (λ x. refl) (λ x. tt) b.lead)
    (lines_cat _ _ (lines_map (members_line r) (λ (m : ℕ × ℕ × List ℕ). MembersForm r m.0 m.1 m.2) (λ x. refl) (λ x. tt) b.members)
    (lines_cat _ _ (none_told b.halt none)
    (lines_cat _ _ (lines_item (taken_line r) (TakenForm r) (λ x. refl) (λ x. tt) b.taken)
    (lines_cat _ _ (lines_map (commit_line r) (λ (c : ℕ × LogEntry). CommitForm r c.0 c.1) (λ x. refl) (λ x. tt) b.commits)
    (lines_cat _ _ (lines_map (answer_line r) (λ (a : ℕ × (ClientId × ℕ × Answer)). AnswerForm a.0 r a.1.0 a.1.1 a.1.2) (λ x. refl) (λ x. tt) (enumerate_from first_answer b.answers))
    (lines_cat _ _ (lines_map (sent_line r) (λ (m : ℕ × (ℕ × PeerMsg)). SentForm m.0 r m.1.0 m.1.1) (λ x. refl) (λ x. tt) (enumerate_from first_message b.sent))
    (lines_cat _ _ (lines_item (saved_line r) (SavedForm r) (λ x. refl) (λ x. tt) b.saved)
    (lines_item (λ refusal. refused_line (refusal_fields refusal)) RefusedForm (λ x. refl) (λ x. tt) b.refused))))))))
  where
    none_told : (o : Option (ℕ × Hash × Hash)) → o ≡ None → AreWithoutHalt (item_line (halt_line r) o)
    none_told None is = lines_nil
    none_told (Some d) is = cc

-- texts
pub text_nil : IsWithoutHalt []
text_nil = ([], refl, tt)

pub text_of_lines : (lines : List Line) → AreWithoutHalt lines → IsWithoutHalt (lines_text lines)
text_of_lines lines a = (a.0, ap lines_text a.1, a.2)

pub text_cat : (s t : List ℕ) → IsWithoutHalt s → IsWithoutHalt t → IsWithoutHalt (s ++ t)
text_cat s t a b = (
  a.0 ++ b.0,
  ap (λ x. x ++ t) a.1 ∙ (ap (λ y. lines_text (map form_fields a.0) ++ y) b.1 ∙ (sym (text_append (map form_fields a.0) (map form_fields b.0)) ∙ ap lines_text (sym (map_append form_fields a.0 b.0)))),
  all-append TellsNoHalt a.0 b.0 a.2 b.2,
)

-- the text of one line
pub text_one : (form : Form) → TellsNoHalt form → IsWithoutHalt (line_text (form_fields form))
text_one form fine = (form ∷ [], sym (append-nil (line_text (form_fields form))), (fine, tt))
