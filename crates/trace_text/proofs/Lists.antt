-- The lines of a list, one by one.
use Rattle.std.proofs.Common.{arith, subst, refl, sym, ap, ◌∙◌, ◌≡◌, ◌+◌, ◌<◌, ◌≤◌, ℕ, zero, suc, add-one, List, [], ◌∷◌, ◌++◌, length, drop, drop-cons, get_or, map, append-nil, append_assoc, Result}
use Rattle.std.specs.List.{enumerate_from}
use Rattle.std.proofs.lemmas.List.FromFn.{get_or-enumerate_from, length-enumerate_from}
use Rattle.fixed_fields.specs.Written.{Puts, Written}
use Rattle.schedule_model.specs.Lines.{Line, line_text, lines_text}

pub next_line : {A : Type 0} (line : A → Line) (items : List A) (i : ℕ) (d : A) (old new total : List ℕ) → i < length items
    → new ≡ old ++ line_text (line (get_or items i d))
    → old ++ lines_text (map line (drop i items)) ≡ total → new ++ lines_text (map line (drop (i + 1) items)) ≡ total
next_line line items i d old new total within is so_far =
    let x = line_text (line (get_or items i d)) in
    let rest = lines_text (map line (drop (i + 1) items)) in
    let parts : lines_text (map line (drop i items)) ≡ x ++ rest = rw (add-one, drop-cons items i d within) refl in
    ap (λ (l : List ℕ). l ++ rest) is ∙ append_assoc old x rest ∙ ap (λ (l : List ℕ). old ++ l) (sym parts) ∙ so_far

-- with their numbers
pub next_numbered : {A : Type 0} (line : ℕ × A → Line) (items : List A) (first i : ℕ) (d : A) (old new total : List ℕ) → i < length items
    → new ≡ old ++ line_text (line (first + i, get_or items i d))
    → old ++ lines_text (map line (drop i (enumerate_from first items))) ≡ total
    → new ++ lines_text (map line (drop (i + 1) (enumerate_from first items))) ≡ total
next_numbered line items first i d old new total within is so_far =
    let size = length-enumerate_from first items in
    let this = get_or-enumerate_from first items i (0, d) within in
    next_line line (enumerate_from first items) i (0, d) old new total (omega (arith, size, within))
    (is ∙ ap (λ p. old ++ line_text (line p)) (sym this)) so_far

-- after the last one
none_left : {A : Type 0} (items : List A) (i : ℕ) → length items ≤ i → drop i items ≡ []
none_left [] zero end = refl
none_left [] (suc i) end = refl
none_left (x ∷ items) zero end = absurd (omega arith)
none_left (x ∷ items) (suc i) end = none_left items i (omega arith)

pub last_line : {A : Type 0} (line : A → Line) (items : List A) (i : ℕ) (old total : List ℕ) → length items ≤ i
    → old ++ lines_text (map line (drop i items)) ≡ total → old ≡ total
last_line line items i old total end so_far = sym (append-nil old) ∙ rw (none_left items i end) at so_far

pub last_numbered : {A : Type 0} (line : ℕ × A → Line) (items : List A) (first i : ℕ) (old total : List ℕ) → length items ≤ i
    → old ++ lines_text (map line (drop i (enumerate_from first items))) ≡ total → old ≡ total
last_numbered line items first i old total end so_far =
    let size = length-enumerate_from first items in
    last_line line (enumerate_from first items) i old total (omega (arith, size, end)) so_far

-- ---- texts of lists of lines, one behind another

pub lines_append : (a b : List Line) → lines_text (a ++ b) ≡ lines_text a ++ lines_text b
lines_append [] b = refl
lines_append (l ∷ a) b = ap (λ (t : List ℕ). line_text l ++ t) (lines_append a b) ∙ sym (append_assoc (line_text l) (lines_text a) (lines_text b))

pub then_lines : (old first all : List ℕ) (a b : List Line) → first ≡ old ++ lines_text a → all ≡ first ++ lines_text b → all ≡ old ++ lines_text (a ++ b)
then_lines old first all a b begun rest =
    rest ∙ ap (λ (l : List ℕ). l ++ lines_text b) begun ∙ append_assoc old (lines_text a) (lines_text b) ∙ ap (λ (l : List ℕ). old ++ l) (sym (lines_append a b))

pub one_line : (old all : List ℕ) (line : Line) → all ≡ old ++ line_text line → all ≡ old ++ lines_text (line ∷ [])
one_line old all line is = is ∙ ap (λ (l : List ℕ). old ++ l) (sym (append-nil (line_text line)))

pub puts_one : {T E : Type 0} {r : Result T E} {old new : Written} (line : Line) → Puts r old new (line_text line) → Puts r old new (lines_text (line ∷ []))
puts_one {r = r} {old = old} {new = new} line put = subst (λ text. Puts r old new text) (sym (append-nil (line_text line))) put
