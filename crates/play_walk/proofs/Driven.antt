-- What is played where clients are driven keeps what each event keeps.
use Rattle.std.proofs.Common.{ℕ, zero, suc, not, ◌&&◌, Bool, true, false, Option, Some, None, Result, Ok, Err, List, [], length}
use Rattle.std.specs.Prelude.{is_some}
use Rattle.values.specs.declared.event.Event.{Event}
use Rattle.values.specs.declared.event.Event.TheVariants as event
use Rattle.values.specs.declared.ids.ClientId.{ClientId}
use Rattle.record_cutting.specs.Lines.{Record}
use Rattle.schedule_model.specs.Reading.{RecordFault}
use Rattle.schedule_model.specs.Records.{event_of}
use Rattle.schedule_model.specs.Written.{Written, On, Off, follow, all_written}
use Rattle.replica_model.specs.Path.{Link}
use Rattle.replica_model.specs.Message.{Message}
use Rattle.group_model.specs.Group.{Answered}
use Rattle.group_model.specs.Run.{Enclaves, enclaves}
use Rattle.trace_model.specs.Driver.{Driver, Turn, begin_want, next_turn, max_turns}
use Rattle.trace_model.specs.Trace.{counted, expanded}
use Rattle.trace_model.specs.Driven.{Driving, flight_of, driven_by, answer_in, sees_answer, turns_end, driver_made, drives, drives_settled, wakes_target, hears_answer, asks_target, takes_turn, takes_turns, carries_if, drives_want, drives_on, driven_said, driven_record}
use Rattle.play_walk.proofs.Ends.{Ends, follow_ends, all_end, ReadsFine, any_read}
use Rattle.play_walk.proofs.Played.{Play}

abbrev pub Drives : Type 0
Drives = Driving Message Enclaves

-- the events that a driver plays, and those that are read, are fine
pub record DriverIsFine (Fine : Event → Type 0) : Type 0 where
  pub tick : (v : ℕ) → Fine (event.Tick v)
  pub say : (c : ClientId) (v : ℕ) → Fine (event.Say c v)
  pub hear : (c : ClientId) (k : ℕ) → Fine (event.Hear c k)
  pub settle : (n : ℕ) → Fine (event.Settle n)
  pub read : (begun : Bool) (fields : Record) → ReadsFine Fine (event_of true begun fields)

-- Q stands where one event was played that is fine, and a record more is counted
module _ (link : Link) (Q : Play → Type 0) (Fine : Event → Type 0) (fine : DriverIsFine Fine) (each : (p : Play) (e : Event) → Fine e → Q p → Ends Q (expanded (enclaves link) p e)) (counting : (p : Play) → Q p → Q (counted p)) where
  abbrev pub DrivesWell : Drives → Type 0
  DrivesWell d = Q d.playing

  driven_by_keeps : (driver : Driver) (x : Written Play) → Ends Q x → Ends DrivesWell (driven_by driver x)
  driven_by_keeps driver (On text p) h = h
  driven_by_keeps driver (Off text stop p) h = h

  drives_keeps : (e : Event) → Fine e → (d : Drives) → DrivesWell d → Ends DrivesWell (drives (enclaves link) d e)
  drives_keeps e ok d good = driven_by_keeps d.driver (expanded (enclaves link) d.playing e) (each d.playing e ok good)

  settled_keeps : (e : Event) → Fine e → (d : Drives) → DrivesWell d → Ends DrivesWell (drives_settled (enclaves link) d e)
  settled_keeps e ok d good = follow_ends DrivesWell (drives (enclaves link) d e) (λ d. drives (enclaves link) d (event.Settle 1024)) (drives_keeps e ok d good) (drives_keeps (event.Settle 1024) (fine.settle 1024))

  -- ---- a turn
  wakes_keeps : (target : ℕ) (b : Bool) (d : Drives) → DrivesWell d → Ends DrivesWell (elim b [ true ↦ drives_settled (enclaves link) d (event.Tick target) | false ↦ On [] d ])
  wakes_keeps target true d good = settled_keeps (event.Tick target) (fine.tick target) d good
  wakes_keeps target false d good = good

  hears_keeps : (c : ClientId) (o : Option (ℕ × Answered)) (d : Drives) → DrivesWell d → Ends DrivesWell (hears_answer (enclaves link) c o d)
  hears_keeps c None d good = good
  hears_keeps c (Some (k, a)) d good = follow_ends DrivesWell (drives (enclaves link) d (event.Hear c k)) (sees_answer c a.answer) (drives_keeps (event.Hear c k) (fine.hear c k) d good) (λ e h. h)

  asks_keeps : (c : ClientId) (t : Turn) (d : Drives) → DrivesWell d → Ends DrivesWell (asks_target (enclaves link) c t d)
  asks_keeps c t d good =
      follow_ends DrivesWell (drives_settled (enclaves link) d (event.Say c t.target)) (λ e. hears_answer (enclaves link) c (answer_in e c (length d.playing.group.answers) (flight_of e c)) e)
      (settled_keeps (event.Say c t.target) (fine.say c t.target) d good)
      (λ e h. hears_keeps c (answer_in e c (length d.playing.group.answers) (flight_of e c)) e h)

  turn_keeps : (c : ClientId) (t : Turn) (d : Drives) → DrivesWell d → Ends DrivesWell (takes_turn (enclaves link) c t d)
  turn_keeps c t d good = follow_ends DrivesWell (wakes_target (enclaves link) t d) (asks_target (enclaves link) c t) (wakes_keeps t.target t.wakes d good) (asks_keeps c t)

  turns_keeps : (n : ℕ) (c : ClientId) (d : Drives) → DrivesWell d → Ends DrivesWell (takes_turns (enclaves link) n c d)
  turns_keeps zero c d good = good
  turns_keeps (suc n) c d good = by_turn (turns_keeps n c) (next_turn d.driver)
    where
      by_turn : ((d : Drives) → DrivesWell d → Ends DrivesWell (takes_turns (enclaves link) n c d)) → (o : Option (Turn × Driver))
          → Ends DrivesWell (elim o [ None ↦ turns_end c d | Some next ↦ follow (takes_turn (enclaves link) c next.0 (record d { driver = next.1 })) (takes_turns (enclaves link) n c) ])
      by_turn rest None = good
      by_turn rest (Some next) = follow_ends DrivesWell (takes_turn (enclaves link) c next.0 (record d { driver = next.1 })) (takes_turns (enclaves link) n c) (turn_keeps c next.0 (record d { driver = next.1 }) good) rest

  carries_keeps : (b : Bool) (c : ClientId) (d : Drives) → DrivesWell d → Ends DrivesWell (carries_if (enclaves link) b c d)
  carries_keeps true c d good = turns_keeps max_turns c (record d { driver = begin_want d.driver }) good
  carries_keeps false c d good = good

  -- ---- a record
  drives_on_keeps : (e : Event) → Fine e → (d : Drives) → DrivesWell d → Ends DrivesWell (drives_on (enclaves link) d e)
  drives_on_keeps (event.Want c w) ok d good =
      follow_ends DrivesWell (drives (enclaves link) d (event.Want c w)) (drives_want (enclaves link) c (is_some (flight_of d c))) (drives_keeps (event.Want c w) ok d good)
      (λ x h. carries_keeps (not (is_some (flight_of d c)) && is_some (flight_of x c)) c x h)
  drives_on_keeps (event.Again c) ok d good = carries_keeps (is_some (flight_of d c)) c d good
  drives_on_keeps (event.Begin margin limit voters) ok d good =
      follow_ends DrivesWell (drives (enclaves link) d (event.Begin margin limit voters)) (λ d. On [] (driver_made d)) (drives_keeps (event.Begin margin limit voters) ok d good) (λ x h. h)
  drives_on_keeps e ok d good = drives_keeps e ok d good

  said_keeps : (r : Result (Option Event) RecordFault) → ReadsFine Fine r → (d : Drives) → DrivesWell d → Ends DrivesWell (driven_said (enclaves link) d r)
  said_keeps (Ok None) ok d good = counting d.playing good
  said_keeps (Ok (Some e)) ok d good = drives_on_keeps e ok (record d { playing = counted d.playing }) (counting d.playing good)
  said_keeps (Err fault) ok d good = good

  record_keeps : (d : Drives) (fields : Record) → DrivesWell d → Ends DrivesWell (driven_record (enclaves link) d fields)
  record_keeps d fields good = said_keeps (event_of true (is_some d.playing.group.setup) fields) (fine.read (is_some d.playing.group.setup) fields) d good

  pub driven_keeps : (d : Drives) → Q d.playing → (records : List Record) → Ends DrivesWell (all_written (driven_record (enclaves link)) d records)
  driven_keeps d good records = all_end DrivesWell (driven_record (enclaves link)) record_keeps d records good

-- every event is fine
pub any_event : DriverIsFine (λ e. Unit {0})
any_event = record { tick = λ v. tt; say = λ c v. tt; hear = λ c k. tt; settle = λ n. tt; read = λ begun fields. any_read (λ e. Unit {0}) (λ e. tt) (event_of true begun fields) }
