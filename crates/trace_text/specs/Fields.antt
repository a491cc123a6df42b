-- The fields of a line.
use Rattle.std.specs.Prelude.{ℕ, List, ◌∷◌, ◌++◌, map, decimal}
use Rattle.schedule_model.specs.Lines.{Line, hex}
use Rattle.trace_text.specs.declared.field.Field.{Field}
use Rattle.trace_text.specs.declared.field.Field.TheVariants as field

-- the text of a field
abbrev pub text_of : Field → List ℕ
text_of (field.Word word) = word.now
text_of (field.Number number) = decimal number
text_of (field.Hex bytes) = hex bytes.now

abbrev pub texts : List Field → Line
texts fields = map text_of fields

-- the line of a word and fields, and of a word, numbers and ids
abbrev pub line_of : List ℕ → List Field → Line
line_of word fields = word ∷ texts fields

abbrev pub numbers_of : List ℕ → List ℕ → List ℕ → Line
numbers_of word numbers ids = word ∷ (map decimal numbers ++ map decimal ids)
