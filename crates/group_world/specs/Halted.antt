-- Why a text ends before its schedule, in code and in the model.
use Rattle.std.specs.Prelude.{ℕ, ◌≡◌, List, ◌++◌, Option, Some, None, Result, Ok, Err}
use Rattle.schedule_model.specs.Quantities as quantity
use Rattle.schedule_model.specs.Written.{Stop, AtRecord, AtLimit, AtFrame, AtField, stopped_text}
use Rattle.trace_text.specs.Refused.{quantity_of}
use Rattle.trace_text.specs.declared.stopped.Quantity.{Quantity}
use Rattle.trace_text.specs.declared.stopped.Quantity.TheVariants as counted
use Rattle.record_stream.specs.declared.player.Stop.{Stop as Stopping}
use Rattle.record_stream.specs.declared.player.Stop.TheVariants as stop
use Rattle.group_world.specs.declared.halt.Halt.{Halt}
use Rattle.group_world.specs.declared.halt.Halt.TheVariants as halt

abbrev pub quantity_for : quantity.Quantity → Quantity
quantity_for quantity.Events = counted.Events
quantity_for quantity.Messages = counted.Messages
quantity_for quantity.Answers = counted.Answers
quantity_for quantity.Replicas = counted.Replicas
quantity_for quantity.States = counted.States
quantity_for quantity.Clients = counted.Clients

abbrev pub stop_by : Halt → Stop
stop_by (halt.Record number cause field) = AtRecord number (record { cause = cause; field = field })
stop_by (halt.Limit which) = AtLimit (quantity_of which)
stop_by (halt.Frame at) = AtFrame at

-- where the field does not answer, none of these is the reason
abbrev pub halt_for : Stop → Option Halt
halt_for (AtRecord number fault) = Some (halt.Record number fault.cause fault.field)
halt_for (AtLimit passed) = Some (halt.Limit (quantity_for passed))
halt_for (AtFrame at) = Some (halt.Frame at)
halt_for AtField = None

abbrev pub halted_by : Option Stop → Option Halt
halted_by None = None
halted_by (Some stop) = halt_for stop

-- playing ends for this reason, which is said; or memory ran out, and the lines are as before
abbrev pub Halts : {T : Type 0} → Halt → (before after : List ℕ) → Result T (Stopping Halt) → Type 0
Halts why before after (Ok done) = ⊥
Halts why before after (Err (stop.Stopped said)) = (said ≡ why) × (after ≡ before ++ stopped_text (stop_by why))
Halts why before after (Err stop.Memory) = after ≡ before
Halts why before after (Err stop.Failed) = ⊥
