-- The text of forms: it is cut into their lines, and each line says its form.
use Rattle.std.proofs.Common.{◌≡◌, ℕ, ◌==◌, not, Bool, true, false, List, [], ◌∷◌, ◌++◌, length, map, refl, sym, ap, subst, ◌∙◌, Option, Some, append_assoc, append-nil}
use Rattle.std.specs.Prelude.{IsTrue, if◌then◌else◌, nat_le}
use Rattle.std.specs.List.{AllByRecursion, AllZip, list_all, join_with_byte}
use Rattle.std.proofs.lemmas.Bool.{and_from, and_parts}
use Rattle.record_cutting.specs.Lines.{whole_lines, last_part, line_if_any, lines_of}
use Rattle.schedule_model.specs.Lines.{Line, line_text, lines_text}
use Rattle.trace_model.specs.TraceLines.{Form, TraceLine, form_fields, joined, max_line, is_plain, InRange, said_by}
use Rattle.trace_model.proofs.Fields.{form_plain}
use Rattle.trace_model.specs.Audit.{Reads}

-- ---- texts without a line feed
abbrev pub is_inner : ℕ → Bool
is_inner b = not (b == 10)

abbrev pub IsInner : List ℕ → Type 0
IsInner text = IsTrue (list_all is_inner text)

inner_append : (xs ys : List ℕ) → IsInner xs → IsInner ys → IsInner (xs ++ ys)
inner_append [] ys a b = b
inner_append (x ∷ xs) ys a b =
    let parts = and_parts (is_inner x) (list_all is_inner xs) a in and_from (is_inner x) (list_all is_inner (xs ++ ys)) parts.0 (inner_append xs ys parts.1 b)

abbrev pub AreInner : Line → Type 0
AreInner fields = AllByRecursion IsInner fields

plain_inner : (fields : Line) → AllByRecursion (λ (field : List ℕ). IsTrue (list_all is_plain field)) fields → AreInner fields
plain_inner [] h = tt
plain_inner (x ∷ fields) h = (inner_of x h.0, plain_inner fields h.1)
  where
    inner_of : (x : List ℕ) → IsTrue (list_all is_plain x) → IsInner x
    inner_of [] h = refl
    inner_of (b ∷ x) h =
        let parts = and_parts (is_plain b) (list_all is_plain x) h in
        and_from (is_inner b) (list_all is_inner x) (and_parts (not (b == 44)) (is_inner b) parts.0).1 (inner_of x parts.1)

joined_inner : (fields : Line) → AreInner fields → IsInner (join_with_byte 44 fields)
joined_inner [] h = refl
joined_inner (x ∷ []) h = h.0
joined_inner (x ∷ (y ∷ fields)) h = inner_append x (44 ∷ join_with_byte 44 (y ∷ fields)) h.0 (joined_inner (y ∷ fields) h.1)

-- ---- how a text is cut
line_cut : (text begun rest : List ℕ) → IsInner text → whole_lines begun (text ++ 10 ∷ rest) ≡ (begun ++ (text ++ 10 ∷ [])) ∷ whole_lines [] rest
unfolding whole_lines
line_cut [] begun rest h = refl
line_cut (b ∷ text) begun rest h = by_test (b == 10) (and_parts (not (b == 10)) (list_all is_inner text) h).0 (line_cut text (begun ++ b ∷ []) rest (and_parts (not (b == 10)) (list_all is_inner text) h).1)
  where
    by_test : (t : Bool) → not t ≡ true → whole_lines (begun ++ b ∷ []) (text ++ 10 ∷ rest) ≡ ((begun ++ b ∷ []) ++ (text ++ 10 ∷ [])) ∷ whole_lines [] rest
        → (if t then (begun ++ (b ∷ [])) ∷ whole_lines [] (text ++ 10 ∷ rest) else whole_lines (begun ++ (b ∷ [])) (text ++ 10 ∷ rest)) ≡ (begun ++ (b ∷ (text ++ 10 ∷ []))) ∷ whole_lines [] rest
    by_test true inner rest_is = absurd (let e : false ≡ true = inner in cc)
    by_test false inner rest_is = rest_is ∙ ap (λ (l : List ℕ). l ∷ whole_lines [] rest) (append_assoc begun (b ∷ []) (text ++ 10 ∷ []))

-- nothing of it follows the last line feed
last_cut : (text begun rest : List ℕ) → IsInner text → last_part begun (text ++ 10 ∷ rest) ≡ last_part [] rest
unfolding last_part
last_cut [] begun rest h = refl
last_cut (b ∷ text) begun rest h = by_test (b == 10) (and_parts (not (b == 10)) (list_all is_inner text) h).0 (last_cut text (begun ++ b ∷ []) rest (and_parts (not (b == 10)) (list_all is_inner text) h).1)
  where
    by_test : (t : Bool) → not t ≡ true → last_part (begun ++ b ∷ []) (text ++ 10 ∷ rest) ≡ last_part [] rest
        → (if t then last_part [] (text ++ 10 ∷ rest) else last_part (begun ++ (b ∷ [])) (text ++ 10 ∷ rest)) ≡ last_part [] rest
    by_test true inner rest_is = absurd (let e : false ≡ true = inner in cc)
    by_test false inner rest_is = rest_is

abbrev form_lines : List Form → List (List ℕ)
form_lines forms = map (λ (f : Form). joined (form_fields f) ++ 10 ∷ []) forms

form_inner : (f : Form) → IsInner (joined (form_fields f))
form_inner f = joined_inner (form_fields f) (plain_inner (form_fields f) (form_plain f))

whole_cut : (forms : List Form) → whole_lines [] (lines_text (map form_fields forms)) ≡ form_lines forms
unfolding line_text whole_lines
whole_cut [] = refl
whole_cut (f ∷ forms) =
    ap (whole_lines []) (append_assoc (joined (form_fields f)) (10 ∷ []) (lines_text (map form_fields forms)))
    ∙ line_cut (joined (form_fields f)) [] (lines_text (map form_fields forms)) (form_inner f)
    ∙ ap (λ ls. (joined (form_fields f) ++ 10 ∷ []) ∷ ls) (whole_cut forms)

none_follows : (forms : List Form) → last_part [] (lines_text (map form_fields forms)) ≡ []
unfolding line_text last_part
none_follows [] = refl
none_follows (f ∷ forms) =
    ap (last_part []) (append_assoc (joined (form_fields f)) (10 ∷ []) (lines_text (map form_fields forms)))
    ∙ last_cut (joined (form_fields f)) [] (lines_text (map form_fields forms)) (form_inner f)
    ∙ none_follows forms

text_cut : (forms : List Form) → lines_of (lines_text (map form_fields forms)) ≡ form_lines forms
text_cut forms =
    ap (λ (rest : List ℕ). whole_lines [] (lines_text (map form_fields forms)) ++ line_if_any rest) (none_follows forms)
    ∙ append-nil (whole_lines [] (lines_text (map form_fields forms))) ∙ whole_cut forms

-- ---- what the lines say
-- a form whose values are in range, and whose line is short
pub record IsFine (f : Form) : Type 0 where
  pub short : IsTrue (nat_le (length (joined (form_fields f))) max_line)
  pub in_range : InRange f

abbrev pub said : List Form → List (Option TraceLine)
said forms = map (λ (f : Form). Some (said_by f)) forms

lines_say : (forms : List Form) → AllByRecursion IsFine forms → AllZip Reads (form_lines forms) (said forms)
lines_say [] h = tt
lines_say (f ∷ forms) h = ((joined (form_fields f), refl, (f, record { short = h.0.short; printed = refl; in_range = h.0.in_range }, refl)), lines_say forms h.1)

pub text_says : (forms : List Form) → AllByRecursion IsFine forms → AllZip Reads (lines_of (lines_text (map form_fields forms))) (said forms)
text_says forms h = subst (λ (ls : List (List ℕ)). AllZip Reads ls (said forms)) (sym (text_cut forms)) (lines_say forms h)
