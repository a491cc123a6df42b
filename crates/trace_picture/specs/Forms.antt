-- Which lines have one of the forms of a trace, also of a driven one.
use Rattle.std.specs.Prelude.{◌≡◌, ℕ, ◌+◌, ◌⊎◌, List, ◌∷◌, ◌++◌, length, IsTrue}
use Rattle.std.specs.List.{AllByRecursion}
use Rattle.record_cutting.specs.Lines.{lines_of}
use Rattle.schedule_model.specs.Lines.{hex}
use Rattle.trace_model.specs.Audit.{LineSays}
use Rattle.trace_model.specs.Driven.{gave_up}
use Rattle.trace_model.specs.TraceLines.{TraceLine, is_client_id}
use Rattle.values.specs.declared.ids.ClientId.{ClientId}

-- a field is a client as it is written
abbrev pub IsClient : List ℕ → Type 0
IsClient field = (c : ClientId) × IsTrue (is_client_id c) × (field ≡ hex c.0)

-- a line, with its line feed, says that a driver gave up the want of a client
abbrev pub IsGaveUp : List ℕ → Type 0
IsGaveUp line = (c : ClientId) × IsTrue (is_client_id c) × (line ≡ gave_up c)

-- a line, with its line feed, has a form
abbrev pub HasForm : List ℕ → Type 0
HasForm line = ((what : TraceLine) × LineSays line what) ⊎ IsGaveUp line

-- each line of these bytes has one
abbrev pub AllHaveForms : List ℕ → Type 0
AllHaveForms bytes = AllByRecursion HasForm (lines_of bytes)

-- of these lines, the one of this number, from 1, is the first that has none
pub record IsFirstBad (n : ℕ) (lines : List (List ℕ)) : Type 0 where
  pub before : List (List ℕ)
  pub line : List ℕ
  pub more : List (List ℕ)
  pub cut : lines ≡ before ++ line ∷ more
  pub number : n ≡ length before + 1
  pub passed : AllByRecursion HasForm before
  pub none : ¬ HasForm line

-- so it is of the lines of all bytes that begin with these
abbrev pub IsFirstBadFrom : ℕ → List ℕ → Type 0
IsFirstBadFrom n front = (rest : List ℕ) → IsFirstBad n (lines_of (front ++ rest))
