-- What a driven schedule writes, over the model's enclaves.
use Rattle.std.specs.Prelude.{Bool, true, false, not, Option, Some}
use Rattle.replica_model.specs.Linked.{sha_link}
use Rattle.replica_model.specs.Message.{Message}
use Rattle.record_stream.specs.Course.{Course}
use Rattle.schedule_model.specs.Written.{AtField, Stop}
use Rattle.group_model.specs.Field.{Field}
use Rattle.group_model.specs.Group.{nothing_started}
use Rattle.group_model.specs.Run.{Enclaves, enclaves, no_enclaves}
use Rattle.trace_model.specs.Driven.{Driving, driven_record}
use Rattle.trace_model.specs.Driver.{new_driver}
use Rattle.trace_model.specs.Trace.{closing, playing}
use Rattle.written_course.specs.Steps.{Steps, course_from}
use Rattle.group_world.specs.Halted.{halt_for}
use Rattle.group_world.specs.Runs.{IsWithoutCollision}
use Rattle.group_world.specs.declared.halt.Halt.{Halt}

abbrev pub Drives : Type 0
Drives = Driving Message Enclaves

abbrev pub field : Field Message Enclaves
field = enclaves sha_link

-- before the first record
abbrev pub start : Drives
start = record { playing = playing (nothing_started no_enclaves); driver = new_driver 0 }

abbrev pub is_unanswered : Option Stop → Bool
is_unanswered (Some AtField) = true
is_unanswered other = false

-- It is said where what learners were handed was named as it is without a collision. The enclaves answer each ask, and the
-- player asks for nothing itself.
abbrev pub steps : Steps Drives Halt
steps = record {
  step = driven_record field;
  closing = λ d. closing d.playing;
  reason = halt_for;
  failed = is_unanswered;
  holds = λ d. IsWithoutCollision d.playing.stands;
  takes_all = λ stop d. not (is_unanswered stop);
  mend = λ d. record d { playing = record d.playing { group = record d.playing.group { field = d.playing.stands } } };
}

abbrev pub course : Drives → Course Halt
course = course_from steps
