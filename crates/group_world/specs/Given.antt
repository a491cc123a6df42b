-- What a field answered, ask by ask, told or not.
use Rattle.std.specs.Prelude.{ℕ, List, [], ◌∷◌}

pub data Given : Type 0 where
  -- a replica was started or stopped
  Taken : Given
  -- a call was answered by this content
  Content : (bytes : List ℕ) → Given

abbrev pub contents_in : List Given → List (List ℕ)
contents_in [] = []
contents_in (Taken ∷ given) = contents_in given
contents_in (Content bytes ∷ given) = bytes ∷ contents_in given
