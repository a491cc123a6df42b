-- The trace of a schedule: one function of its bytes, with open ends.
use Rattle.std.specs.Prelude.{ℕ, zero, suc, ◌+◌, Bool, true, false, List, [], ◌∷◌, length, Option, Some, None, is_some, Result, Ok, Err}
use Rattle.values.specs.declared.event.Event.{Event}
use Rattle.values.specs.declared.event.Event.TheVariants as event
use Rattle.record_cutting.specs.Lines.{Record, records_of}
use Rattle.schedule_model.specs.Reading.{RecordFault}
use Rattle.schedule_model.specs.Written.{AtRecord, AtLimit, AtFrame, AtField, Written, On, Off, follow, all_written, text_with}
use Rattle.schedule_model.specs.Records.{event_of}
use Rattle.schedule_model.specs.Lines.{Line, lines_text, event_line, batch_lines, refused_line, group_refusal_fields, client_line, closing_lines}
use Rattle.schedule_model.specs.Quantities.{Quantity}
use Rattle.group_model.specs.Field.{Field}
use Rattle.group_model.specs.Group.{Group, nothing_started, next_message, is_within}
use Rattle.group_model.specs.Happens.{Came, Refused, Replied, Reported, Passed, Happening, Happened, Broken, Unanswered, happens}
use Rattle.trace_model.specs.Limits.{passed_before, passed_after}

-- A schedule that is being played: how many records were read, the group, and where its field stands. While playing goes on
-- that is where the group has it. Where an event ends the text, the group is the one before the event, and the field stands
-- where its answers to the event left it; a field that gave none stands as the group has it.
pub record Playing (M F : Type 0) : Type 0 where
  pub records : ℕ
  pub group : Group M F
  pub stands : F

module _ {M F : Type 0} where
  -- the lines of what came of an event, by the group before it
  abbrev pub came_lines : Group M F → Came → List Line
  came_lines g (Refused refusal) = refused_line (group_refusal_fields refusal) ∷ []
  came_lines g (Replied r batch) = batch_lines r (length g.messages + 1) (length g.answers + 1) batch
  came_lines g (Reported client report) = client_line client report ∷ []
  came_lines g Passed = []

  -- the lines of an event
  abbrev pub happened_text : Group M F → Event → Came → List ℕ
  happened_text g e came = lines_text (event_line (length g.past + 1) e ∷ came_lines g came)

  -- the three closing lines
  abbrev pub closing : Playing M F → List ℕ
  closing p =
      lines_text
      (closing_lines p.group.committed (is_within p.group) (length p.group.past) (length p.group.messages) (length p.group.answers))

  abbrev pub playing : Group M F → Playing M F
  playing g = record { records = 0; group = g; stands = g.field }

  abbrev pub counted : Playing M F → Playing M F
  counted p = record p { records = p.records + 1 }

module _ {M F : Type 0} (field : Field M F) where
  -- the group goes on, where the event has passed no limit
  abbrev pub within_limits : Playing M F → List ℕ → Group M F → Option Quantity → Written (Playing M F)
  within_limits p text g None = On text (record p { group = g; stands = g.field })
  within_limits p text g (Some passed) = Off [] (AtLimit passed) (record p { stands = g.field })

  -- the event that happened, unless a start or a stop was not answered
  abbrev pub unless_failed : Playing M F → List ℕ → Group M F → Bool → Written (Playing M F)
  unless_failed p text g false = within_limits p text g (passed_after g)
  unless_failed p text g true = Off [] AtField (record p { stands = g.field })

  abbrev pub happened : Playing M F → Event → Happening M F → Written (Playing M F)
  happened p e (Happened came g) = unless_failed p (happened_text p.group e came) g (field.has_failed g.field)
  happened p e (Broken at f) = Off [] (AtFrame at) (record p { stands = f })
  happened p e Unanswered = Off [] AtField p

  abbrev pub tried : Playing M F → Event → Option Quantity → Written (Playing M F)
  tried p e (Some passed) = Off [] (AtLimit passed) p
  tried p e None = happened p e (happens field e p.group)

  -- one event is played
  abbrev pub played : Playing M F → Event → Written (Playing M F)
  played p e = tried p e (passed_before p.group e)

  -- settle delivers at most n messages, and looks anew before each
  abbrev pub settled : ℕ → Playing M F → Written (Playing M F)
  settled zero p = On [] p
  settled (suc n) p =
      elim (next_message p.group) [ None ↦ On [] p | Some k ↦ follow (played p (event.Deliver k)) (settled n) ]

  -- an event, or the events that a settle stands for
  abbrev pub expanded : Playing M F → Event → Written (Playing M F)
  expanded p (event.Settle n) = settled n p
  expanded p e = played p e

  abbrev pub said : Playing M F → Result (Option Event) RecordFault → Written (Playing M F)
  said p (Ok None) = On [] (counted p)
  said p (Ok (Some e)) = expanded (counted p) e
  said p (Err fault) = Off [] (AtRecord (p.records + 1) fault) p

  -- one record is played: it is read before limits are tried
  abbrev pub record_played : Playing M F → Record → Written (Playing M F)
  record_played p fields = said p (event_of false (is_some p.group.setup) fields)

  -- records are played, one by one
  abbrev pub records_played : Playing M F → List Record → Written (Playing M F)
  records_played p records = all_written record_played p records

  -- events are played, one by one
  abbrev pub events_played : Playing M F → List Event → Written (Playing M F)
  events_played p events = all_written expanded p events

  -- what a whole schedule writes, from where nothing has started
  abbrev pub schedule_played : F → List ℕ → Written (Playing M F)
  schedule_played f bytes = records_played (playing (nothing_started f)) (records_of bytes)

  -- its whole text, closing lines included
  abbrev pub trace_over : F → List ℕ → List ℕ
  trace_over f bytes = text_with closing (schedule_played f bytes)
