-- What is read of a line, as the model has it.
use Rattle.std.specs.Prelude.{◌≡◌, Option, Some, None, Result, Ok, Err, ⊤}
use Rattle.trace_model.specs.TraceLines as model
use Rattle.trace_lines.specs.declared.line.LineError.{LineError}
use Rattle.trace_lines.specs.declared.line.LineError.TheVariants as errors
use Rattle.trace_lines.specs.declared.line.TraceLine.{TraceLine}
use Rattle.trace_lines.specs.declared.line.TraceLine.TheVariants as line

-- what a value says
abbrev pub meant : TraceLine → model.TraceLine
meant (line.Event number what) = model.EventLine number what
meant (line.Commit replica index entry) = model.Commit replica index entry
meant (line.Outcome client number index reply) = model.Outcome client number index reply
meant (line.Members margin voters) = model.Members margin voters
meant line.Refused = model.Refused
meant (line.LogEnd length) = model.LogEnd length
meant (line.Rollbacks within) = model.Rollbacks within
meant line.End = model.End
meant line.Stopped = model.Stopped
meant line.Other = model.Other

-- this is read of a line that says so, but for want of memory
abbrev pub Tells : Result TraceLine LineError → model.TraceLine → Type 0
Tells (Ok read) what = meant read ≡ what
Tells (Err errors.Memory) what = ⊤
Tells (Err errors.Grammar) what = ⊥

-- What is read is what is said. Want of memory may hide anything.
abbrev pub Gives : {T U : Type 0} → (T → U) → Result T LineError → Option U → Type 0
Gives view (Ok value) said = said ≡ Some (view value)
Gives view (Err errors.Memory) said = ⊤
Gives view (Err errors.Grammar) said = said ≡ None

abbrev pub GivesLine : Result TraceLine LineError → Option model.TraceLine → Type 0
GivesLine result said = Gives meant result said

-- the same of a value that stands for itself
abbrev pub GivesValue : {T : Type 0} → Result T LineError → Option T → Type 0
GivesValue result said = Gives (λ value. value) result said
