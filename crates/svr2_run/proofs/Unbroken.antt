-- The model's enclaves answer by batches alone, so no text over them ends at an answer that is none.
use Rattle.std.proofs.Common.{◌≡◌, ℕ, zero, suc, Bool, true, false, not, ◌&&◌, length, Option, Some, None, Result, Ok, Err, List, [], ◌∷◌, refl, subst}
use Rattle.std.specs.Prelude.{is_some}
use Rattle.values.specs.declared.event.Event.{Event}
use Rattle.values.specs.declared.event.Event.TheVariants as event
use Rattle.values.specs.declared.ids.ClientId.{ClientId}
use Rattle.record_cutting.specs.Lines.{Record}
use Rattle.schedule_model.specs.Quantities.{Quantity}
use Rattle.schedule_model.specs.Reading.{RecordFault}
use Rattle.schedule_model.specs.Records.{event_of}
use Rattle.schedule_model.specs.Written.{Stop, AtRecord, AtLimit, AtFrame, AtField, Written, On, Off, onto, follow, all_written, stop_of}
use Rattle.replica_model.specs.Path.{Link}
use Rattle.replica_model.specs.Message.{Message}
use Rattle.group_model.specs.Group.{Answered, Sent, next_message}
use Rattle.group_model.specs.Happens.{Came, Happening, Happened, Broken, Unanswered, happens}
use Rattle.group_model.specs.Run.{Enclaves, World, enclaves}
use Rattle.trace_model.specs.Limits.{passed_before, passed_after}
use Rattle.trace_model.specs.Trace.{Playing, counted, happened_text, within_limits, happened, tried, played, settled, expanded, said, record_played, records_played}
use Rattle.trace_model.specs.Driven.{Driving, answer_in, asks_target, carries_if, driven_by, driven_record, driven_said, driver_made, drives, drives_on, drives_settled, drives_want, flight_of, hears_answer, sees_answer, takes_turn, takes_turns, turns_end, wakes_target}
use Rattle.trace_model.specs.Driver.{Driver, Turn, begin_want, max_turns, next_turn}
use Rattle.event_walk.proofs.Walk.{unbroken}

abbrev NotAtFrame : Stop → Type 0
NotAtFrame (AtRecord number fault) = Unit {0}
NotAtFrame (AtLimit passed) = Unit {0}
NotAtFrame (AtFrame at) = ⊥
NotAtFrame AtField = Unit {0}

module _ {P : Type 0} where
  abbrev Unbroken : Written P → Type 0
  Unbroken (On text p) = Unit {0}
  Unbroken (Off text stop p) = NotAtFrame stop

  onto_unbroken : (text : List ℕ) (x : Written P) → Unbroken x → Unbroken (onto text x)
  onto_unbroken text (On more p) h = tt
  onto_unbroken text (Off more stop p) h = h

  follow_unbroken : (x : Written P) (next : P → Written P) → Unbroken x → ((p : P) → Unbroken (next p)) → Unbroken (follow x next)
  follow_unbroken (On text p) next h later = onto_unbroken text (next p) (later p)
  follow_unbroken (Off text stop p) next h later = h

  all_unbroken : {A : Type 0} (piece : P → A → Written P) → ((p : P) (a : A) → Unbroken (piece p a)) → (p : P) (xs : List A) → Unbroken (all_written piece p xs)
  unfolding all_written
  all_unbroken piece each p [] = tt
  all_unbroken piece each p (a ∷ rest) = follow_unbroken (piece p a) (λ q. all_written piece q rest) (each p a) (λ q. all_unbroken piece each q rest)

  no_frame : (w : Written P) (at : ℕ) → Unbroken w → stop_of w ≡ Some (AtFrame at) → ⊥
  no_frame (On text p) at h e = cc e
  no_frame (Off text (AtRecord number fault) p) at h e = cc e
  no_frame (Off text (AtLimit passed) p) at h e = cc e
  no_frame (Off text (AtFrame by) p) at h e = h
  no_frame (Off text AtField p) at h e = cc e

module _ (link : Link) where
  abbrev Play : Type 0
  Play = Playing Message Enclaves

  -- ---- one event
  module _ (p : Play) (e : Event) where
    within_unbroken : (came : Came) (g : World) (o : Option Quantity) → Unbroken (within_limits (enclaves link) p (happened_text p.group e came) g o)
    within_unbroken came g None = tt
    within_unbroken came g (Some passed) = tt

    happened_unbroken : (x : Happening Message Enclaves) → happens (enclaves link) e p.group ≡ x → Unbroken (happened (enclaves link) p e x)
    happened_unbroken (Happened came g) is = within_unbroken came g (passed_after g)
    happened_unbroken (Broken at f) is = absurd (unbroken link p.group e at f is)
    happened_unbroken Unanswered is = tt

    tried_unbroken : (o : Option Quantity) → Unbroken (tried (enclaves link) p e o)
    tried_unbroken (Some passed) = tt
    tried_unbroken None = happened_unbroken (happens (enclaves link) e p.group) refl

    played_unbroken : Unbroken (played (enclaves link) p e)
    played_unbroken = tried_unbroken (passed_before p.group e)

  -- ---- all of them
  settled_unbroken : (n : ℕ) (p : Play) → Unbroken (settled (enclaves link) n p)
  settled_unbroken zero p = tt
  settled_unbroken (suc n) p = by_next (settled_unbroken n) (next_message p.group)
    where
      by_next : ((q : Play) → Unbroken (settled (enclaves link) n q)) → (o : Option ℕ) → Unbroken (elim o [ None ↦ On [] p | Some k ↦ follow (played (enclaves link) p (event.Deliver k)) (settled (enclaves link) n) ])
      by_next rest None = tt
      by_next rest (Some k) = follow_unbroken (played (enclaves link) p (event.Deliver k)) (settled (enclaves link) n) (played_unbroken p (event.Deliver k)) rest

  expanded_unbroken : (p : Play) (e : Event) → Unbroken (expanded (enclaves link) p e)
  expanded_unbroken p (event.Settle n) = settled_unbroken n p
  expanded_unbroken p e = played_unbroken p e

  said_unbroken : (p : Play) (r : Result (Option Event) RecordFault) → Unbroken (said (enclaves link) p r)
  said_unbroken p (Ok None) = tt
  said_unbroken p (Ok (Some e)) = expanded_unbroken (counted p) e
  said_unbroken p (Err fault) = tt

  records_unbroken : (p : Play) (rs : List Record) → Unbroken (records_played (enclaves link) p rs)
  records_unbroken p rs = all_unbroken (record_played (enclaves link)) (λ p fields. said_unbroken p (event_of false (is_some p.group.setup) fields)) p rs

  pub never_at_frame : (p : Play) (rs : List Record) (at : ℕ) → stop_of (records_played (enclaves link) p rs) ≡ Some (AtFrame at) → ⊥
  never_at_frame p rs at e = no_frame (records_played (enclaves link) p rs) at (records_unbroken p rs) e

  -- ---- and where each accepted want is carried to its report
  abbrev Driven : Type 0
  Driven = Driving Message Enclaves

  by_driver : (driver : Driver) (x : Written Play) → Unbroken x → Unbroken (driven_by driver x)
  by_driver driver (On text p) h = h
  by_driver driver (Off text stop p) h = h

  drives_unbroken : (e : Event) (d : Driven) → Unbroken (drives (enclaves link) d e)
  drives_unbroken e d = by_driver d.driver (expanded (enclaves link) d.playing e) (expanded_unbroken d.playing e)

  drives_settled_unbroken : (e : Event) (d : Driven) → Unbroken (drives_settled (enclaves link) d e)
  drives_settled_unbroken e d = follow_unbroken (drives (enclaves link) d e) (λ d. drives (enclaves link) d (event.Settle 1024)) (drives_unbroken e d) (drives_unbroken (event.Settle 1024))

  wakes_unbroken : (t : Turn) (d : Driven) → Unbroken (wakes_target (enclaves link) t d)
  wakes_unbroken t d = by t.wakes
    where
      by : (b : Bool) → Unbroken (elim b [ true ↦ drives_settled (enclaves link) d (event.Tick t.target) | false ↦ On [] d ])
      by true = drives_settled_unbroken (event.Tick t.target) d
      by false = tt

  hears_unbroken : (c : ClientId) (o : Option (ℕ × Answered)) (d : Driven) → Unbroken (hears_answer (enclaves link) c o d)
  hears_unbroken c None d = tt
  hears_unbroken c (Some (k, a)) d = follow_unbroken (drives (enclaves link) d (event.Hear c k)) (sees_answer c a.answer) (drives_unbroken (event.Hear c k) d) (λ e. tt)

  asks_unbroken : (c : ClientId) (t : Turn) (d : Driven) → Unbroken (asks_target (enclaves link) c t d)
  asks_unbroken c t d =
      follow_unbroken (drives_settled (enclaves link) d (event.Say c t.target)) (λ e. hears_answer (enclaves link) c (answer_in e c (length d.playing.group.answers) (flight_of e c)) e)
      (drives_settled_unbroken (event.Say c t.target) d) (λ e. hears_unbroken c (answer_in e c (length d.playing.group.answers) (flight_of e c)) e)

  turn_unbroken : (c : ClientId) (t : Turn) (d : Driven) → Unbroken (takes_turn (enclaves link) c t d)
  turn_unbroken c t d = follow_unbroken (wakes_target (enclaves link) t d) (asks_target (enclaves link) c t) (wakes_unbroken t d) (asks_unbroken c t)

  turns_unbroken : (n : ℕ) (c : ClientId) (d : Driven) → Unbroken (takes_turns (enclaves link) n c d)
  turns_unbroken zero c d = tt
  turns_unbroken (suc n) c d = by (turns_unbroken n c) (next_turn d.driver)
    where
      by : ((e : Driven) → Unbroken (takes_turns (enclaves link) n c e)) → (o : Option (Turn × Driver))
          → Unbroken (elim o [ None ↦ turns_end c d | Some next ↦ follow (takes_turn (enclaves link) c next.0 (record d { driver = next.1 })) (takes_turns (enclaves link) n c) ])
      by rest None = tt
      by rest (Some next) = follow_unbroken (takes_turn (enclaves link) c next.0 (record d { driver = next.1 })) (takes_turns (enclaves link) n c) (turn_unbroken c next.0 (record d { driver = next.1 })) rest

  carries_unbroken : (c : ClientId) (b : Bool) (d : Driven) → Unbroken (carries_if (enclaves link) b c d)
  carries_unbroken c true d = turns_unbroken max_turns c (record d { driver = begin_want d.driver })
  carries_unbroken c false d = tt

  on_unbroken : (e : Event) (d : Driven) → Unbroken (drives_on (enclaves link) d e)
  on_unbroken (event.Want c w) d =
      follow_unbroken (drives (enclaves link) d (event.Want c w)) (drives_want (enclaves link) c (is_some (flight_of d c))) (drives_unbroken (event.Want c w) d)
      (λ e. carries_unbroken c (not (is_some (flight_of d c)) && is_some (flight_of e c)) e)
  on_unbroken (event.Again c) d = carries_unbroken c (is_some (flight_of d c)) d
  on_unbroken (event.Begin margin limit voters) d =
      follow_unbroken (drives (enclaves link) d (event.Begin margin limit voters)) (λ d. On [] (driver_made d)) (drives_unbroken (event.Begin margin limit voters) d) (λ e. tt)
  on_unbroken e d = drives_unbroken e d

  driven_said_unbroken : (d : Driven) (r : Result (Option Event) RecordFault) → Unbroken (driven_said (enclaves link) d r)
  driven_said_unbroken d (Ok None) = tt
  driven_said_unbroken d (Ok (Some e)) = on_unbroken e (record d { playing = counted d.playing })
  driven_said_unbroken d (Err fault) = tt

  pub never_driven_at_frame : (d : Driven) (rs : List Record) (at : ℕ) → stop_of (all_written (driven_record (enclaves link)) d rs) ≡ Some (AtFrame at) → ⊥
  never_driven_at_frame d rs at e =
      no_frame (all_written (driven_record (enclaves link)) d rs) at
      (all_unbroken (driven_record (enclaves link)) (λ d fields. driven_said_unbroken d (event_of true (is_some d.playing.group.setup) fields)) d rs) e
