-- A driven schedule: each accepted want is carried to its report by events of the driver's own.
use Rattle.std.specs.Prelude.{ℕ, zero, suc, ◌+◌, ◌==◌, ◌&&◌, not, Bool, true, false, if◌then◌else◌, List, [], ◌∷◌, length, drop, reverse, fold, slice_get, codes, decimal, Option, Some, None, is_some, is_none, option_and_then, unwrap_or, Result, Ok, Err}
use Rattle.std.specs.List.{enumerate_from}
use Rattle.values.specs.declared.event.Event.{Event}
use Rattle.values.specs.declared.event.Event.TheVariants as event
use Rattle.values.specs.declared.ids.ClientId.{ClientId}
use Rattle.values.specs.declared.message.Answer.{Answer}
use Rattle.values.specs.declared.message.Answer.TheVariants as answer
use Rattle.replica_model.specs.Path.{Link}
use Rattle.replica_model.specs.Message.{Message}
use Rattle.record_cutting.specs.Lines.{Record, records_of}
use Rattle.schedule_model.specs.Reading.{RecordFault}
use Rattle.schedule_model.specs.Records.{event_of}
use Rattle.schedule_model.specs.Client.{Flight}
use Rattle.schedule_model.specs.Lines.{line_text, hex}
use Rattle.schedule_model.specs.Written.{AtRecord, Written, On, Off, follow, all_written, text_with, last_of}
use Rattle.group_model.specs.Field.{Field}
use Rattle.group_model.specs.Group.{Answered, nothing_started, core_of, is_client}
use Rattle.trace_model.specs.Driver.{Driver, Turn, Seen, Silence, Progress, Report, Led, Other, new_driver, begin_want, next_turn, seen, max_turns}
use Rattle.trace_model.specs.Trace.{Playing, playing, counted, closing, expanded}
use Rattle.group_model.specs.Run.{Enclaves, World, enclaves, no_enclaves}

-- a schedule that is played, and the one driver of all its clients
pub record Driving (M F : Type 0) : Type 0 where
  pub playing : Playing M F
  pub driver : Driver

-- whether an answer is one to this number of the client
abbrev pub answers_to : ClientId → ℕ → Answered → Bool
answers_to c number a = is_client a.client c && (a.number == number)

-- the last of these answers that is one, with its number
abbrev pub last_answer : ClientId → ℕ → List (ℕ × Answered) → Option (ℕ × Answered)
last_answer c number answers =
    fold (λ (found : Option (ℕ × Answered)) (x : ℕ × Answered). if answers_to c number x.1 then Some x else found)
    None answers

-- what an answer that gave no report shows
abbrev pub seen_in : Answer → Seen
seen_in (answer.Outcome index reply) = Progress
seen_in (answer.NotLeader zero) = Other
seen_in (answer.NotLeader (suc id)) = Led (suc id)
seen_in other = Other

abbrev pub gave_up : ClientId → List ℕ
gave_up c = line_text (codes "gaveup" ∷ hex c.0 ∷ decimal max_turns ∷ [])

module _ {M F : Type 0} where
  -- what a client has in flight
  abbrev pub flight_of : Driving M F → ClientId → Option Flight
  flight_of d c = option_and_then (λ core. core.flight) (core_of d.playing.group.cores c)

  abbrev pub driven_by : Driver → Written (Playing M F) → Written (Driving M F)
  driven_by driver (On text p) = On text (record { playing = p; driver = driver })
  driven_by driver (Off text stop p) = Off text stop (record { playing = p; driver = driver })

  -- the greatest answer to the number in flight among those after the first n
  abbrev pub answer_in : Driving M F → ClientId → ℕ → Option Flight → Option (ℕ × Answered)
  answer_in d c n None = None
  answer_in d c n (Some flight) = last_answer c flight.number (enumerate_from (n + 1) (drop n d.playing.group.answers))

  abbrev pub sees : Seen → Driving M F → Driving M F
  sees what d = record d { driver = seen d.driver what d.playing.group.running }

  -- an answer was heard: a report has ended the want
  abbrev pub sees_answer : ClientId → Answer → Driving M F → Written (Driving M F)
  sees_answer c a d = On [] (sees (if is_none (flight_of d c) then Report else seen_in a) d)

  -- the turns end, with a report or without one
  abbrev pub turns_end : ClientId → Driving M F → Written (Driving M F)
  turns_end c d = On (if is_some (flight_of d c) then gave_up c else []) d

  -- the driver is made at the begin event, with the least voter
  abbrev pub driver_made : Driving M F → Driving M F
  driver_made d = record d { driver = new_driver (unwrap_or (slice_get d.playing.group.running 0) 0) }

module _ {M F : Type 0} (field : Field M F) where
  -- an event is played, and the driver stays
  abbrev pub drives : Driving M F → Event → Written (Driving M F)
  drives d e = driven_by d.driver (expanded field d.playing e)

  -- an event, and then at most 1,024 deliveries
  abbrev pub drives_settled : Driving M F → Event → Written (Driving M F)
  drives_settled d e = follow (drives d e) (λ d. drives d (event.Settle 1024))

  abbrev pub wakes_target : Turn → Driving M F → Written (Driving M F)
  wakes_target t d = elim t.wakes [ true ↦ drives_settled d (event.Tick t.target) | false ↦ On [] d ]

  abbrev pub hears_answer : ClientId → Option (ℕ × Answered) → Driving M F → Written (Driving M F)
  hears_answer c None d = On [] (sees Silence d)
  hears_answer c (Some (k, a)) d = follow (drives d (event.Hear c k)) (sees_answer c a.answer)

  -- the client says its request, and hears the greatest answer to it that came since
  abbrev pub asks_target : ClientId → Turn → Driving M F → Written (Driving M F)
  asks_target c t d =
      follow (drives_settled d (event.Say c t.target))
      (λ e. hears_answer c (answer_in e c (length d.playing.group.answers) (flight_of e c)) e)

  -- one turn
  abbrev pub takes_turn : ClientId → Turn → Driving M F → Written (Driving M F)
  takes_turn c t d = follow (wakes_target t d) (asks_target c t)

  -- turns are taken until none is left
  abbrev pub takes_turns : ℕ → ClientId → Driving M F → Written (Driving M F)
  takes_turns zero c d = turns_end c d
  takes_turns (suc n) c d =
      elim (next_turn d.driver) [
        | None ↦ turns_end c d
        | Some next ↦ follow (takes_turn c next.0 (record d { driver = next.1 })) (takes_turns n c)
      ]

  abbrev pub carries : ClientId → Driving M F → Written (Driving M F)
  carries c d = takes_turns max_turns c (record d { driver = begin_want d.driver })

  -- an accepted want has put something in flight where nothing was
  abbrev pub carries_if : Bool → ClientId → Driving M F → Written (Driving M F)
  carries_if true c d = carries c d
  carries_if false c d = On [] d

  abbrev pub drives_want : ClientId → Bool → Driving M F → Written (Driving M F)
  drives_want c busy d = carries_if (not busy && is_some (flight_of d c)) c d

  -- an event of the schedule, and what the driver makes of it
  abbrev pub drives_on : Driving M F → Event → Written (Driving M F)
  drives_on d (event.Want c w) = follow (drives d (event.Want c w)) (drives_want c (is_some (flight_of d c)))
  drives_on d (event.Again c) = carries_if (is_some (flight_of d c)) c d
  drives_on d (event.Begin margin limit voters) =
      follow (drives d (event.Begin margin limit voters)) (λ d. On [] (driver_made d))
  drives_on d e = drives d e

  abbrev pub driven_said : Driving M F → Result (Option Event) RecordFault → Written (Driving M F)
  driven_said d (Ok None) = On [] (record d { playing = counted d.playing })
  driven_said d (Ok (Some e)) = drives_on (record d { playing = counted d.playing }) e
  driven_said d (Err fault) = Off [] (AtRecord (d.playing.records + 1) fault) d

  -- one record is played
  abbrev pub driven_record : Driving M F → Record → Written (Driving M F)
  driven_record d fields = driven_said d (event_of true (is_some d.playing.group.setup) fields)

  -- what a driven schedule writes
  abbrev pub driven_over : F → List ℕ → Written (Driving M F)
  driven_over f bytes =
      all_written driven_record (record { playing = playing (nothing_started f); driver = new_driver 0 }) (records_of bytes)

abbrev pub driven_trace : Link → List ℕ → List ℕ
driven_trace link bytes =
    text_with (λ (d : Driving Message Enclaves). closing d.playing) (driven_over (enclaves link) no_enclaves bytes)

abbrev pub driven_world : Link → List ℕ → World
driven_world link bytes = (last_of (driven_over (enclaves link) no_enclaves bytes)).playing.group

-- the events of a driven schedule, in their order
abbrev pub driven : Link → List ℕ → List Event
driven link bytes = reverse (driven_world link bytes).past
