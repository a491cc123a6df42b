-- The pieces of a turn as the code takes them: of an answer it keeps the number, and what it shows where it ends no want.
use Rattle.std.specs.Prelude.{ℕ, if◌then◌else◌, is_none, is_some, [], Option, Some, None, option_map}
use Rattle.values.specs.declared.event.Event.{Event}
use Rattle.values.specs.declared.event.Event.TheVariants as event
use Rattle.values.specs.declared.ids.ClientId.{ClientId}
use Rattle.schedule_model.specs.Written.{On, follow}
use Rattle.group_model.specs.Group.{Answered}
use Rattle.trace_model.specs.Driven.{answer_in, carries, driver_made, drives, drives_want, flight_of, seen_in, sees, takes_turns}
use Rattle.trace_model.specs.Driver.{Report, Seen, Silence}
use Rattle.client_driver.specs.Turns.{seen_of}
use Rattle.client_driver.specs.declared.driver.Seen.{Seen as SeenOf}
use Rattle.drive_command.specs.Course.{Drives, field}
use Rattle.drive_command.specs.Pieces.{Piece}

-- of an answer, its number and what it shows
abbrev pub shown : ℕ × Answered → ℕ × Seen
shown x = (x.0, seen_in x.1.answer)

abbrev pub shown_by : ℕ × SeenOf → ℕ × Seen
shown_by x = (x.0, seen_of x.1)

-- what came of a turn
abbrev pub sees_one : Seen → Piece
sees_one what d = On [] (sees what d)

-- a report has ended the want, or it shows this
abbrev pub sees_heard : ClientId → Seen → Piece
sees_heard c what d = sees_one (if is_none (flight_of d c) then Report else what) d

-- the client hears this answer, where there is one
abbrev pub hears_shown : ClientId → Option (ℕ × Seen) → Piece
hears_shown c None d = sees_one Silence d
hears_shown c (Some (k, what)) d = follow (drives field d (event.Hear c k)) (sees_heard c what)

-- what the newest answer shows to what the client has in flight, among those after the first n
abbrev pub newest_shown : Drives → ClientId → ℕ → Option (ℕ × Seen)
newest_shown d c n = option_map shown (answer_in d c n (flight_of d c))

-- an event by which a client's user wants something, and what the driver makes of it
abbrev pub wants_carried : Event → ClientId → Piece
wants_carried e c d = follow (drives field d e) (drives_want field c (is_some (flight_of d c)))

-- the event by which the group begins, and the driver that it makes
abbrev pub begins_driver : Event → Piece
begins_driver e d = follow (drives field d e) (λ d. On [] (driver_made d))

-- so many turns at most, and a want carried; neither is computed where it is only named
unfoldable pub turns : ℕ → ClientId → Piece
turns n c d = takes_turns field n c d

unfoldable pub carried : ClientId → Piece
carried c d = carries field c d
