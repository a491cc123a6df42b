-- A record that is not read has no event.
use Rattle.std.proofs.Common.{refl, Result, Ok, Err}
use Rattle.std.specs.Prelude.{Option}
use Rattle.values.specs.declared.event.Event.{Event}
use Rattle.schedule_model.specs.Reading.{RecordFault}
use Rattle.schedule_model.specs.Records.{some_event}
use Rattle.schedule_text.specs.Read.{Reads}
use Rattle.schedule_text.specs.declared.fault.Unread.{Unread}
use Rattle.schedule_text.specs.declared.fault.Unread.TheVariants as unread

pub unread_event : (e : Unread) (said : Result Event RecordFault) → Reads {T = Event} (Err e) said → Reads {T = Option Event} (Err e) (some_event said)
unread_event unread.Memory (Ok event) h = refl
unread_event unread.Memory (Err f) h = cc h
unread_event (unread.Fault f) said h = rw h refl
