-- What the group refuses an event for, and what a run has a limit of.
use Rattle.schedule_model.specs.Quantities as quantity
use Rattle.schedule_model.specs.Refusals as refusals
use Rattle.trace_text.specs.declared.refused.GroupRefusal.{GroupRefusal}
use Rattle.trace_text.specs.declared.refused.GroupRefusal.TheVariants as refusal
use Rattle.trace_text.specs.declared.stopped.Quantity.{Quantity}
use Rattle.trace_text.specs.declared.stopped.Quantity.TheVariants as counted

-- the refusal that a value stands for
abbrev pub meant : GroupRefusal → refusals.GroupRefusal
meant (refusal.NoMessage message) = refusals.NoMessage message
meant (refusal.Lost message) = refusals.Lost message
meant (refusal.NotRunning replica) = refusals.NotRunning replica
meant (refusal.AlreadyStarted replica) = refusals.AlreadyStarted replica
meant (refusal.NoSuchState state) = refusals.NoSuchState state
meant refusal.ClientBusy = refusals.ClientBusy
meant (refusal.WrongSize part length) = refusals.WrongSize part length
meant (refusal.NumbersOut last) = refusals.NumbersOut last
meant refusal.NothingInFlight = refusals.NothingInFlight
meant (refusal.NoAnswer answer) = refusals.NoAnswer answer
meant (refusal.NotYours answer) = refusals.NotYours answer

abbrev pub quantity_of : Quantity → quantity.Quantity
quantity_of counted.Events = quantity.Events
quantity_of counted.Messages = quantity.Messages
quantity_of counted.Answers = quantity.Answers
quantity_of counted.Replicas = quantity.Replicas
quantity_of counted.States = quantity.States
quantity_of counted.Clients = quantity.Clients
