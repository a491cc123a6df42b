-- What the driver makes of the event of a record.
use Rattle.std.proofs.Common.{refl, sym, ap, ap₂, ◌∙◌, ◌≡◌, ℕ, Bool, true, false, not, ◌&&◌, is_some, List, [], Result}
use Rattle.values.specs.declared.event.Event.{Event}
use Rattle.values.specs.declared.event.Event.TheVariants as event
use Rattle.values.specs.declared.ids.ClientId.{ClientId}
use Rattle.values.specs.declared.want.Want.{Want}
use Rattle.record_stream.specs.declared.player.Stop.{Stop as Stopping}
use Rattle.schedule_model.specs.Written.{On}
use Rattle.trace_model.specs.Driven.{carries_if, drives, drives_on, drives_want, flight_of}
use Rattle.trace_model.specs.Driver.{begin_want, max_turns}
use Rattle.group_world.specs.declared.halt.Halt.{Halt}
use Rattle.drive_command.specs.Course.{Drives, field}
use Rattle.drive_command.specs.Pieces.{Writes}
use Rattle.drive_command.specs.Standing.{Stands}
use Rattle.drive_command.specs.Turns.{carried, turns}
use Rattle.drive_command.specs.declared.player.DrivePlayer.{DrivePlayer}
use Rattle.drive_command.proofs.Composed.{writes_as, writes_from}

-- ---- what is carried

abbrev begun : Drives → Drives
begun d = record d { driver = begin_want d.driver }

carried_is : (c : ClientId) (d : Drives) → carried c d ≡ turns max_turns c (begun d)
unfolding turns carried
carried_is c d = refl

pub carried_writes : {T : Type 0} (c : ClientId) (p q v : DrivePlayer) → ((d : Drives) → Stands p d → Stands q (record d { driver = begin_want d.driver })) → (before after : List ℕ) (o : Result T (Stopping Halt)) → Writes (turns max_turns c) q v before after o → Writes (carried c) p v before after o
carried_writes c p q v stands before after o h =
    writes_as (carried c) (λ d. turns max_turns c (begun d)) p v before after o (λ d st. carried_is c d) (writes_from (turns max_turns c) p q v begun stands before after o h)

pub carries_where : (c : ClientId) (d : Drives) (b : Bool) → b ≡ true → carries_if field b c d ≡ carried c d
unfolding carried
carries_where c d b is = ap (λ (b : Bool). carries_if field b c d) is

pub stays_where : (c : ClientId) (d : Drives) (b : Bool) → b ≡ false → carries_if field b c d ≡ On [] d
stays_where c d b is = ap (λ (b : Bool). carries_if field b c d) is

-- ---- whether a want was taken up

module _ (c : ClientId) (p q : DrivePlayer) (busy now : Bool) (was : (d : Drives) → Stands p d → busy ≡ is_some (flight_of d c)) (is : (e : Drives) → Stands q e → now ≡ is_some (flight_of e c)) where
  test_same : (d e : Drives) → Stands p d → Stands q e → (not (is_some (flight_of d c)) && is_some (flight_of e c)) ≡ (not busy && now)
  test_same d e s t = ap₂ (λ (x y : Bool). not x && y) (sym (was d s)) (sym (is e t))

  pub taken_up : busy ≡ false → now ≡ true → (d e : Drives) → Stands p d → Stands q e → drives_want field c (is_some (flight_of d c)) e ≡ carried c e
  taken_up free some d e s t = carries_where c e (not (is_some (flight_of d c)) && is_some (flight_of e c)) (test_same d e s t ∙ ap₂ (λ (x y : Bool). not x && y) free some)

  pub not_taken_up : busy ≡ false → now ≡ false → (d e : Drives) → Stands p d → Stands q e → drives_want field c (is_some (flight_of d c)) e ≡ On [] e
  not_taken_up free none d e s t = stays_where c e (not (is_some (flight_of d c)) && is_some (flight_of e c)) (test_same d e s t ∙ ap₂ (λ (x y : Bool). not x && y) free none)

pub busy_before : (c : ClientId) (p : DrivePlayer) (busy : Bool) → ((d : Drives) → Stands p d → busy ≡ is_some (flight_of d c)) → busy ≡ true → (d e : Drives) → Stands p d → drives_want field c (is_some (flight_of d c)) e ≡ On [] e
busy_before c p busy was taken d e s =
    stays_where c e (not (is_some (flight_of d c)) && is_some (flight_of e c)) (ap (λ (x : Bool). not x && is_some (flight_of e c)) (sym (was d s) ∙ taken))

-- ---- an event that is no want and no begin, and lets no client go on

pub drives_other : (e : Event) (d : Drives) → ((c : ClientId) (w : Want) → e ≡ event.Want c w → ⊥) → ((c : ClientId) → e ≡ event.Again c → ⊥) → ((margin limit : ℕ) (voters : List ℕ) → e ≡ event.Begin margin limit voters → ⊥) → drives_on field d e ≡ drives field d e
drives_other (event.Want c w) d want again begin = absurd (want c w refl)
drives_other (event.Again c) d want again begin = absurd (again c refl)
drives_other (event.Begin margin limit voters) d want again begin = absurd (begin margin limit voters refl)
drives_other e d want again begin = refl
