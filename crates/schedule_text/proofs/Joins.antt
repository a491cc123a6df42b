-- A line of a first field and more.
use Rattle.std.proofs.Common.{sym, ap, ◌∙◌, ◌≡◌, ℕ, List, [], ◌∷◌, ◌++◌, append-nil, append_assoc, codes}
use Rattle.std.specs.List.{join_with_byte}
use Rattle.schedule_model.specs.Lines.{Line, line_text}
use Rattle.schedule_text.specs.Joined.{after_commas}

join : (field : List ℕ) (fields : Line) → join_with_byte 44 (field ∷ fields) ≡ field ++ after_commas fields
join field [] = sym (append-nil field)
join field (next ∷ fields) = ap (λ (l : List ℕ). field ++ (44 ∷ l)) (join next fields)

-- its text
pub line_of_fields : (field : List ℕ) (fields : Line) → line_text (field ∷ fields) ≡ (field ++ after_commas fields) ++ (10 ∷ [])
unfolding line_text
line_of_fields field fields = ap (λ (l : List ℕ). l ++ (10 ∷ [])) (join field fields)

-- the last line of a text that ends at a record
pub stopped_parts : (number word field : List ℕ) → line_text (codes "stopped" ∷ codes "schedule" ∷ number ∷ word ∷ field ∷ [])
    ≡ ((((codes "stopped,schedule," ++ number) ++ (44 ∷ word)) ++ (44 ∷ [])) ++ field) ++ (10 ∷ [])
unfolding line_text
stopped_parts number word field =
    ap (λ (l : List ℕ). codes "stopped,schedule," ++ (l ++ (10 ∷ [])))
    (sym (append_assoc (number ++ (44 ∷ word)) (44 ∷ []) field ∙ append_assoc number (44 ∷ word) (44 ∷ field)))
