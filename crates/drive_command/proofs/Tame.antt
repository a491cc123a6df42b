-- The pieces of a driven schedule go on in states from which playing goes on, and what was handed over before them was handed
-- over by their end.
use Rattle.std.proofs.Common.{refl, ◌≡◌, ℕ, zero, suc, Bool, true, false, is_none, is_some, if◌then◌else◌, not, ◌&&◌, length, List, [], Option, Some, None, Result, Ok, Err}
use Rattle.values.specs.declared.event.Event.{Event}
use Rattle.values.specs.declared.event.Event.TheVariants as event
use Rattle.values.specs.declared.ids.ClientId.{ClientId}
use Rattle.record_cutting.specs.Lines.{Record}
use Rattle.schedule_model.specs.Reading.{RecordFault}
use Rattle.schedule_model.specs.Records.{event_of}
use Rattle.schedule_model.specs.Written.{Written, On, Off, follow, last_of}
use Rattle.group_model.specs.Group.{Answered}
use Rattle.group_model.specs.Run.{Enclaves}
use Rattle.replica_model.specs.Message.{Message}
use Rattle.trace_model.specs.Driven.{answer_in, asks_target, carries, carries_if, driven_by, driven_record, driven_said, driver_made, drives, drives_on, drives_settled, drives_want, flight_of, hears_answer, seen_in, sees, takes_turn, takes_turns, turns_end, wakes_target}
use Rattle.trace_model.specs.Driver.{Driver, Report, Silence, Turn, begin_want, max_turns, next_turn}
use Rattle.trace_model.specs.Trace.{Playing, counted, expanded}
use Rattle.written_course.specs.Steps.{AreSteps, OnIs}
use Rattle.written_course.proofs.Texts.{follow_is, follow_till}
use Rattle.group_world.specs.Meanings.{OfEnclaves, AreNamed, model_of}
use Rattle.group_world.specs.Runs.{IsWithoutCollision}
use Rattle.group_world.proofs.Named.{GoesOnSo, IsNamedTill as GroupNamedTill, expand-before, expand-so}
use Rattle.drive_command.specs.Course.{Drives, field, steps}
use Rattle.drive_command.specs.Pieces.{IsNamedTill, Piece}

-- the field stands where the group has it
abbrev pub Keeps : Drives → Type 0
Keeps d = d.playing.stands ≡ d.playing.group.field

abbrev pub Holds : Drives → Type 0
Holds d = IsWithoutCollision d.playing.stands

pub record IsTame (what : Piece) : Type 0 where
  pub on : (d : Drives) → Keeps d → OnIs Keeps (what d)
  pub before : (d : Drives) → Keeps d → IsNamedTill (what d) → Holds d

-- ---- one event

abbrev P : Type 0
P = Playing Message Enclaves

driven_on : (driver : Driver) (w : Written P) → GoesOnSo OfEnclaves w → OnIs Keeps (driven_by driver w)
driven_on driver (On text p) so = so
driven_on driver (Off text stop p) so = tt

pub driven_last : (driver : Driver) (w : Written P) → (last_of (driven_by driver w)).playing ≡ last_of w
driven_last driver (On text p) = refl
driven_last driver (Off text stop p) = refl

pub named_driven : (driver : Driver) (w : Written P) → IsNamedTill (driven_by driver w) → GroupNamedTill OfEnclaves w
unfolding AreNamed
named_driven driver (On text p) named = named
named_driven driver (Off text stop p) named = named

held_so : (f : Enclaves) → AreNamed OfEnclaves f → IsWithoutCollision f
unfolding AreNamed
held_so f named = named

event_on : (e : Event) (d : Drives) → Keeps d → GoesOnSo OfEnclaves (expanded field d.playing e)
unfolding model_of
event_on e d kept = expand-so OfEnclaves d.playing e kept

event_before : (e : Event) (d : Drives) → Keeps d → GroupNamedTill OfEnclaves (expanded field d.playing e) → AreNamed OfEnclaves d.playing.stands
unfolding model_of
event_before e d kept named = expand-before OfEnclaves d.playing e kept named

pub tame_drives : (e : Event) → IsTame (λ d. drives field d e)
tame_drives e = record {
  on = λ d kept. driven_on d.driver (expanded field d.playing e) (event_on e d kept);
  before = λ d kept named. held_so d.playing.stands (event_before e d kept (named_driven d.driver (expanded field d.playing e) named));
}

-- ---- pieces of pieces

pub tame_follow : (first : Piece) (next : Drives → Piece) → IsTame first → ((d : Drives) → IsTame (next d)) → IsTame (λ d. follow (first d) (next d))
tame_follow first next tame rest = record {
  on = λ d kept. follow_is Keeps Holds (first d) (next d) (tame.on d kept) (λ e so. (rest d).on e so);
  before = λ d kept named. tame.before d kept (follow_till Keeps Holds (first d) (next d) (tame.on d kept) (λ e so till. (rest d).before e so till) named);
}

-- what depends on the state in which it begins
pub tame_each : {A : Type 0} (whats : A → Piece) (by : Drives → A) → ((a : A) → IsTame (whats a)) → IsTame (λ d. whats (by d) d)
tame_each whats by tame = record { on = λ d kept. (tame (by d)).on d kept; before = λ d kept named. (tame (by d)).before d kept named }

-- another driver
pub tame_driver : (by : Drives → Driver) → IsTame (λ d. On [] (record d { driver = by d }))
tame_driver by = record { on = λ d kept. kept; before = λ d kept named. named }

pub tame_with : (by : Drives → Driver) (what : Piece) → IsTame what → IsTame (λ d. what (record d { driver = by d }))
tame_with by what tame = record { on = λ d kept. tame.on (record d { driver = by d }) kept; before = λ d kept named. tame.before (record d { driver = by d }) kept named }

pub tame_text : (text : Drives → List ℕ) → IsTame (λ d. On (text d) d)
tame_text text = record { on = λ d kept. kept; before = λ d kept named. named }

-- ---- a turn

pub tame_settled : (e : Event) → IsTame (λ d. drives_settled field d e)
tame_settled e = tame_follow (λ d. drives field d e) (λ d e. drives field e (event.Settle 1024)) (tame_drives e) (λ d. tame_drives (event.Settle 1024))

pub tame_wakes : (t : Turn) → IsTame (wakes_target field t)
tame_wakes t = by t.wakes
  where
    by : (b : Bool) → IsTame (λ d. elim b [ true ↦ drives_settled field d (event.Tick t.target) | false ↦ On [] d ])
    by true = tame_settled (event.Tick t.target)
    by false = tame_text (λ d. [])

pub tame_hears : (c : ClientId) (o : Option (ℕ × Answered)) → IsTame (hears_answer field c o)
tame_hears c None = tame_driver (λ d. (sees Silence d).driver)
tame_hears c (Some (k, a)) =
    tame_follow (λ d. drives field d (event.Hear c k)) (λ d e. On [] (sees (if is_none (flight_of e c) then Report else seen_in a.answer) e)) (tame_drives (event.Hear c k))
    (λ d. tame_driver (λ e. (sees (if is_none (flight_of e c) then Report else seen_in a.answer) e).driver))

pub tame_answer : (c : ClientId) (n : ℕ) → IsTame (λ e. hears_answer field c (answer_in e c n (flight_of e c)) e)
tame_answer c n = tame_each (hears_answer field c) (λ e. answer_in e c n (flight_of e c)) (tame_hears c)

pub tame_asks : (c : ClientId) (t : Turn) → IsTame (asks_target field c t)
tame_asks c t =
    tame_follow (λ d. drives_settled field d (event.Say c t.target)) (λ d e. hears_answer field c (answer_in e c (length d.playing.group.answers) (flight_of e c)) e) (tame_settled (event.Say c t.target))
    (λ d. tame_answer c (length d.playing.group.answers))

pub tame_turn : (c : ClientId) (t : Turn) → IsTame (takes_turn field c t)
tame_turn c t = tame_follow (wakes_target field t) (λ d. asks_target field c t) (tame_wakes t) (λ d. tame_asks c t)

pub tame_end : (c : ClientId) → IsTame (turns_end c)
tame_end c = record { on = λ d kept. kept; before = λ d kept named. named }

-- by the next turn
abbrev turns_by : ℕ → ClientId → Option (Turn × Driver) → Piece
turns_by n c o d = elim o [ None ↦ turns_end c d | Some next ↦ follow (takes_turn field c next.0 (record d { driver = next.1 })) (takes_turns field n c) ]

tame_by : (n : ℕ) (c : ClientId) → IsTame (takes_turns field n c) → (o : Option (Turn × Driver)) → IsTame (turns_by n c o)
tame_by n c rest None = tame_end c
tame_by n c rest (Some next) =
    tame_follow (λ d. takes_turn field c next.0 (record d { driver = next.1 })) (λ d. takes_turns field n c) (tame_with (λ d. next.1) (takes_turn field c next.0) (tame_turn c next.0)) (λ d. rest)

pub tame_turns : (n : ℕ) (c : ClientId) → IsTame (takes_turns field n c)
tame_turns zero c = tame_end c
tame_turns (suc n) c = tame_each (turns_by n c) (λ d. next_turn d.driver) (tame_by n c (tame_turns n c))

-- ---- a record

pub tame_carries : (c : ClientId) → IsTame (carries field c)
tame_carries c = tame_with (λ d. begin_want d.driver) (takes_turns field max_turns c) (tame_turns max_turns c)

pub tame_if : (c : ClientId) (b : Bool) → IsTame (carries_if field b c)
tame_if c true = tame_carries c
tame_if c false = tame_text (λ d. [])

pub tame_want : (c : ClientId) (busy : Bool) → IsTame (drives_want field c busy)
tame_want c busy = tame_each (λ b. carries_if field b c) (λ d. not busy && is_some (flight_of d c)) (tame_if c)

pub tame_begin : IsTame (λ d. On [] (driver_made d))
tame_begin = tame_driver (λ d. (driver_made d).driver)

pub tame_on : (e : Event) → IsTame (λ d. drives_on field d e)
tame_on (event.Want c w) = tame_follow (λ d. drives field d (event.Want c w)) (λ d. drives_want field c (is_some (flight_of d c))) (tame_drives (event.Want c w)) (λ d. tame_want c (is_some (flight_of d c)))
tame_on (event.Again c) = tame_each (λ b. carries_if field b c) (λ d. is_some (flight_of d c)) (tame_if c)
tame_on (event.Begin margin limit voters) =
    tame_follow (λ d. drives field d (event.Begin margin limit voters)) (λ d e. On [] (driver_made e)) (tame_drives (event.Begin margin limit voters)) (λ d. tame_begin)
tame_on (event.Start r) = tame_drives (event.Start r)
tame_on (event.Tick r) = tame_drives (event.Tick r)
tame_on (event.Deliver k) = tame_drives (event.Deliver k)
tame_on (event.Lose k) = tame_drives (event.Lose k)
tame_on (event.Settle n) = tame_drives (event.Settle n)
tame_on (event.Crash r) = tame_drives (event.Crash r)
tame_on (event.Save r) = tame_drives (event.Save r)
tame_on (event.Roll r k) = tame_drives (event.Roll r k)
tame_on (event.Join r x) = tame_drives (event.Join r x)
tame_on (event.Admit r x) = tame_drives (event.Admit r x)
tame_on (event.Remove r x) = tame_drives (event.Remove r x)
tame_on (event.Ask r c n request) = tame_drives (event.Ask r c n request)
tame_on (event.Say c r) = tame_drives (event.Say c r)
tame_on (event.Hear c k) = tame_drives (event.Hear c k)
tame_on (event.Margin r n) = tame_drives (event.Margin r n)

tame_said : (read : Result (Option Event) RecordFault) → IsTame (λ d. driven_said field d read)
tame_said (Ok None) = record { on = λ d kept. kept; before = λ d kept named. named }
tame_said (Ok (Some e)) = record { on = λ d kept. (tame_on e).on (record d { playing = counted d.playing }) kept; before = λ d kept named. (tame_on e).before (record d { playing = counted d.playing }) kept named }
tame_said (Err fault) = record { on = λ d kept. tt; before = λ d kept named. named }

pub tame_record : (r : Record) → IsTame (λ d. driven_record field d r)
tame_record r = tame_each (λ read d. driven_said field d read) (λ d. event_of true (is_some d.playing.group.setup) r) tame_said

pub driven_steps : AreSteps steps Keeps
driven_steps = record {
  on = λ d r kept. (tame_record r).on d kept;
  before = λ d r kept named. (tame_record r).before d kept named;
  mended = λ d. refl;
  mended_before = λ d named. named;
}
