-- What the pieces of a schedule write one after another, and why a text ends before its schedule.
use Rattle.std.specs.Prelude.{ℕ, List, [], ◌∷◌, ◌++◌, Option, Some, None}
use Rattle.schedule_model.specs.Reading.{RecordFault}
use Rattle.schedule_model.specs.Lines.{line_text, stopped_at_record, stopped_at_limit, stopped_at_frame}
use Rattle.schedule_model.specs.Quantities.{Quantity}

-- a text ends at a record, at a limit, at an answer of the field that is no batch, or where the field does not answer
pub data Stop : Type 0 where
  AtRecord : (number : ℕ) (fault : RecordFault) → Stop
  AtLimit : (passed : Quantity) → Stop
  AtFrame : (at : ℕ) → Stop
  AtField : Stop

-- the last line of such a text. Where the field does not answer there is none
abbrev pub stopped_text : Stop → List ℕ
stopped_text (AtRecord number fault) = line_text (stopped_at_record number fault)
stopped_text (AtLimit passed) = line_text (stopped_at_limit passed)
stopped_text (AtFrame at) = line_text stopped_at_frame
stopped_text AtField = []

-- what a piece writes, and where playing then stands: the text goes on from there, or it ends there
pub data Written (S : Type 0) : Type 0 where
  On : (text : List ℕ) (after : S) → Written S
  Off : (text : List ℕ) (stop : Stop) (at : S) → Written S

module _ {S : Type 0} where
  -- a text before what is written
  abbrev pub onto : List ℕ → Written S → Written S
  onto text (On more s) = On (text ++ more) s
  onto text (Off more stop s) = Off (text ++ more) stop s

  -- what is written first, and then what follows
  abbrev pub follow : Written S → (S → Written S) → Written S
  follow (On text s) next = onto text (next s)
  follow (Off text stop s) next = Off text stop s

  -- pieces, one after another
  unfoldable pub all_written : {A : Type 0} → (S → A → Written S) → S → List A → Written S
  all_written piece s [] = On [] s
  all_written piece s (a ∷ rest) = follow (piece s a) (λ t. all_written piece t rest)

  -- the whole text, where `close` gives what is written at the end
  abbrev pub text_with : (S → List ℕ) → Written S → List ℕ
  text_with close (On text s) = text ++ close s
  text_with close (Off text stop s) = text ++ stopped_text stop

  -- nothing is written at the end
  abbrev pub no_closing : S → List ℕ
  no_closing s = []

  -- where playing ended, and why before the end
  abbrev pub last_of : Written S → S
  last_of (On text s) = s
  last_of (Off text stop s) = s

  abbrev pub stop_of : Written S → Option Stop
  stop_of (On text s) = None
  stop_of (Off text stop s) = Some stop
