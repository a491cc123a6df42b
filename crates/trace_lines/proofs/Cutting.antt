-- A text is cut into the fields that it was joined of.
use Rattle.std.proofs.Common.{◌≡◌, ℕ, zero, suc, ◌+◌, ◌-◌, ◌<◌, ◌==◌, not, Bool, true, false, List, [], ◌∷◌, ◌++◌, length, take, drop, refl, sym, ap, ◌∙◌, arith}
use Rattle.std.specs.Prelude.{IsTrue}
use Rattle.std.specs.List.{AllByRecursion, list_all, onto_first}
use Rattle.std.proofs.lemmas.Bool.{and_parts}
use Rattle.std.proofs.lemmas.List.{take_rest}
use Rattle.std.proofs.lemmas.List.Splits.{join_with_byte-slice_split, slice_split-cons_no, slice_split-cons_yes}
use Rattle.memchr.specs.Find.{NoneBefore, Nowhere, Passes, is_byte}
use Rattle.schedule_model.specs.Lines.{Line}
use Rattle.trace_model.specs.TraceLines.{is_plain, joined}
use Rattle.trace_lines.specs.Lines.{cut}

abbrev IsPlain : List ℕ → Type 0
IsPlain field = IsTrue (list_all is_plain field)

no_comma : (b : ℕ) (field : List ℕ) → IsPlain (b ∷ field) → (b == 44) ≡ false
no_comma b field h = go (b == 44) (and_parts (not (b == 44)) (not (b == 10)) (and_parts (is_plain b) (list_all is_plain field) h).0).0
  where
    go : (t : Bool) → not t ≡ true → t ≡ false
    go true is = cc is
    go false is = refl

field_cut : (field rest : List ℕ) → IsPlain field → cut (field ++ 44 ∷ rest) ≡ field ∷ cut rest
field_cut [] rest h = refl
field_cut (b ∷ field) rest h =
    slice_split-cons_no (λ b. b == 44) b (field ++ 44 ∷ rest) (no_comma b field h)
    ∙ ap (onto_first b) (field_cut field rest (and_parts (is_plain b) (list_all is_plain field) h).1)

last_cut : (field : List ℕ) → IsPlain field → cut field ≡ field ∷ []
last_cut [] h = refl
last_cut (b ∷ field) h =
    slice_split-cons_no (λ b. b == 44) b field (no_comma b field h)
    ∙ ap (onto_first b) (last_cut field (and_parts (is_plain b) (list_all is_plain field) h).1)

pub cut_joined : (field : List ℕ) (fields : Line) → AllByRecursion IsPlain (field ∷ fields) → cut (joined (field ∷ fields)) ≡ field ∷ fields
cut_joined field [] h = last_cut field h.0
cut_joined field (next ∷ fields) h = field_cut field (joined (next ∷ fields)) h.0 ∙ ap (λ fs. field ∷ fs) (cut_joined next fields h.1)

pub joined_cut : (text : List ℕ) → joined (cut text) ≡ text
joined_cut text = join_with_byte-slice_split 44 text

-- ---- cut at its first comma
none_first : (b : ℕ) (text : List ℕ) (k : ℕ) → Nowhere (Passes (is_byte 44) (b ∷ text)) 0 (suc k) → (b == 44) ≡ false
none_first b text k none = go (b == 44) (none 0 (omega arith) (omega arith))
  where
    go : (t : Bool) → ¬ (t ≡ true) → t ≡ false
    go true h = absurd (h refl)
    go false h = refl

none_behind : (b : ℕ) (text : List ℕ) (k : ℕ) → Nowhere (Passes (is_byte 44) (b ∷ text)) 0 (suc k) → Nowhere (Passes (is_byte 44) text) 0 k
none_behind b text k none j low high = none (suc j) (omega arith) (omega (arith, high))

at_comma : (text : List ℕ) (k : ℕ) → k < length text → Nowhere (Passes (is_byte 44) text) 0 k → Passes (is_byte 44) text k → cut text ≡ take k text ∷ cut (drop (suc k) text)
at_comma [] k lt none pass = absurd (omega (arith, lt))
at_comma (b ∷ text) zero lt none pass = slice_split-cons_yes (λ b. b == 44) b text pass
at_comma (b ∷ text) (suc k) lt none pass =
    slice_split-cons_no (λ b. b == 44) b text (none_first b text k none)
    ∙ ap (onto_first b) (at_comma text k (omega (arith, lt)) (none_behind b text k none) pass)

pub cut_first : (text : List ℕ) (k : ℕ) → NoneBefore (Passes (is_byte 44) text) 0 (length text) k → Passes (is_byte 44) text k
    → cut text ≡ take k text ∷ cut (take (length text - (k + 1)) (drop (k + 1) text))
cut_first text k none pass =
    let next : suc k ≡ k + 1 = omega arith in
    at_comma text k none.high none.before pass
    ∙ ap (λ n. take k text ∷ cut (drop n text)) next
    ∙ ap (λ rest. take k text ∷ cut rest) (sym (take_rest text (k + 1)))

pub cut_none : (text : List ℕ) → Nowhere (Passes (is_byte 44) text) 0 (length text) → cut text ≡ text ∷ []
cut_none [] none = refl
cut_none (b ∷ text) none =
    slice_split-cons_no (λ b. b == 44) b text (none_first b text (length text) none)
    ∙ ap (onto_first b) (cut_none text (none_behind b text (length text) none))
