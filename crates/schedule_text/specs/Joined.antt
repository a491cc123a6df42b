-- The fields of a line behind its first one, each with its comma.
use Rattle.std.specs.Prelude.{ℕ, List, [], ◌∷◌, ◌++◌}
use Rattle.schedule_model.specs.Lines.{Line}

-- a field behind a comma
abbrev pub after_comma : List ℕ → List ℕ
after_comma field = 44 ∷ field

-- each field behind a comma
abbrev pub after_commas : Line → List ℕ
after_commas [] = []
after_commas (field ∷ fields) = after_comma field ++ after_commas fields
