-- The line which says that a driver gave up, by its parts.
use Rattle.std.proofs.Common.{sym, ap, ◌∙◌, ◌≡◌, ℕ, List, codes, decimal, [], ◌∷◌, ◌++◌, append-nil, append_assoc}
use Rattle.values.specs.declared.ids.ClientId.{ClientId}
use Rattle.schedule_model.specs.Lines.{hex}
use Rattle.schedule_text.proofs.Joins.{line_of_fields}
use Rattle.trace_model.specs.Driven.{gave_up}
use Rattle.trace_model.specs.Driver.{max_turns}

parts : (first middle last : List ℕ) → first ++ ((44 ∷ middle) ++ ((44 ∷ last) ++ [])) ++ (10 ∷ []) ≡ (((first ++ (44 ∷ middle)) ++ (44 ∷ [])) ++ last) ++ (10 ∷ [])
parts first middle last =
    ap (λ (l : List ℕ). l ++ (10 ∷ []))
    (ap (λ (l : List ℕ). first ++ ((44 ∷ middle) ++ l)) (append-nil (44 ∷ last)) ∙ sym (append_assoc first (44 ∷ middle) (44 ∷ last)) ∙ sym (append_assoc (first ++ (44 ∷ middle)) (44 ∷ []) last))

pub gaveup_parts : (c : ClientId) → gave_up c ≡ (((codes "gaveup" ++ (44 ∷ hex c.0)) ++ (44 ∷ [])) ++ decimal max_turns) ++ (10 ∷ [])
gaveup_parts c = line_of_fields (codes "gaveup") (hex c.0 ∷ decimal max_turns ∷ []) ∙ parts (codes "gaveup") (hex c.0) (decimal max_turns)
