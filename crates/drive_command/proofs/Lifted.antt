-- What the group plays of an event is what the driven schedule plays of it.
use Rattle.byte_streams.specs.Causes.{HasCauseAt}
use Rattle.std.proofs.Common.{arith, inl, inr, refl, sym, ap, ◌∙◌, ◌≡◌, ℕ, List, [], ◌++◌, Option, Some, Result, Ok, Err}
use Rattle.values.specs.declared.event.Event.{Event}
use Rattle.record_stream.specs.declared.player.Stop.{Stop as Stopping}
use Rattle.record_stream.specs.declared.player.Stop.TheVariants as stop
use Rattle.schedule_model.specs.Written.{Written, On, Off, Stop, onto}
use Rattle.group_model.specs.Run.{Enclaves}
use Rattle.replica_model.specs.Message.{Message}
use Rattle.trace_model.specs.Driven.{driven_by, drives}
use Rattle.trace_model.specs.Driver.{Driver}
use Rattle.trace_model.specs.Trace.{Playing, expanded}
use Rattle.enclave_host.specs.Fields.{Map}
use Rattle.group_world.specs.Given.{Given}
use Rattle.group_world.specs.Meanings.{OfEnclaves, Fits, model_of}
use Rattle.group_world.specs.Plays.{SeesPlaying}
use Rattle.group_world.specs.Playing.{all_of}
use Rattle.group_world.specs.Playing as group
use Rattle.group_world.specs.Scripts.{map_of}
use Rattle.group_world.specs.declared.halt.Halt.{Halt}
use Rattle.group_world.specs.declared.world.World.{World}
use Rattle.drive_command.specs.Course.{field}
use Rattle.drive_command.specs.Pieces.{PlaysOff, PlaysOn, PlaysSome, Writes}
use Rattle.drive_command.specs.declared.player.DrivePlayer.{DrivePlayer}
use Rattle.drive_command.proofs.Tame.{named_driven}

abbrev P : Type 0
P = Playing Message Enclaves

-- the model's enclaves answer whatever was given before
any_given : (w : World) (map : Option Map) (gs hs : List Given) (p : P) → SeesPlaying OfEnclaves w map gs p → SeesPlaying OfEnclaves w map hs p
unfolding Fits
any_given w map gs hs p (sees, stands) = (record { world = sees.world; field = sees.field }, stands)

driven_onto : (driver : Driver) (text : List ℕ) (w : Written P) → driven_by driver (onto text w) ≡ onto text (driven_by driver w)
driven_onto driver text (On more p) = refl
driven_onto driver text (Off more stop p) = refl

module _ (e : Event) (p q : DrivePlayer) (driver : q.driver ≡ p.driver) (records : q.group.records ≡ p.group.records) (given : List Given) (text : List ℕ) where
  abbrev w : World
  w = p.group.world

  abbrev w' : World
  w' = q.group.world

  abbrev map : Option Map
  map = Some (map_of p.group.field)

  abbrev map' : Option Map
  map' = Some (map_of q.group.field)

  lift_on : group.PlaysOn (all_of e) w w' map map' given text → PlaysOn (λ d. drives field d e) p text q
  unfolding model_of
  lift_on plays d st named =
      let (x, it, seen, same) = plays OfEnclaves [] d.playing (any_given w map [] (given ++ []) d.playing st.sees) (named_driven d.driver (expanded field d.playing e) named) in (
        record { playing = x; driver = d.driver },
        ap (driven_by d.driver) it,
        record { sees = seen; driver = st.driver ∙ sym driver; records = same ∙ st.records ∙ sym records },
      )

  lift_off : (why : Stop) → group.PlaysOff (all_of e) w w' map map' given text why → PlaysOff (λ d. drives field d e) p text why
  unfolding model_of
  lift_off why plays d st named =
      let (x, it, fits) = plays OfEnclaves d.playing (any_given w map [] given d.playing st.sees) (named_driven d.driver (expanded field d.playing e) named) in
      (record { playing = x; driver = d.driver }, ap (driven_by d.driver) it)

  lift_some : group.PlaysSome (all_of e) w w' map map' given text → PlaysSome (λ d. drives field d e) p text
  unfolding model_of
  lift_some plays d st named =
      let (rest, it) = plays OfEnclaves d.playing (any_given w map [] given d.playing st.sees) (named_driven d.driver (expanded field d.playing e) named) in
      (driven_by d.driver rest, ap (driven_by d.driver) it ∙ driven_onto d.driver text rest)

pub lifts : {T : Type 0} (e : Event) (p q : DrivePlayer) → q.driver ≡ p.driver → q.group.records ≡ p.group.records → (given : List Given) (before after : List ℕ) (o : Result T (Stopping Halt)) → (o ≡ Err stop.Failed → ⊥)
    → group.Writes (all_of e) p.group.world q.group.world (Some (map_of p.group.field)) (Some (map_of q.group.field)) given before after o → Writes (λ d. drives field d e) p q before after o
lifts e p q driver records given before after (Ok done) answered (text, grown, on) = (text, grown, lift_on e p q driver records given text on)
lifts e p q driver records given before after (Err (stop.Stopped why)) answered (text, grown, off) = (text, grown, lift_off e p q driver records given text _ off)
lifts e p q driver records given before after (Err stop.Memory) answered (text, grown, some) = (text, grown, lift_some e p q driver records given text some)
lifts e p q driver records given before after (Err stop.Failed) answered h = answered refl

-- the field's count of faults stays 0, so it never failed
pub never_failed : {T : Type 0} (o : Result T (Stopping Halt)) → HasCauseAt stop.Failed 0 0 o → o ≡ Err stop.Failed → ⊥
never_failed o cause is = elim (cause.failed is) [ inl less ↦ omega (arith, less) | inr top ↦ omega (arith, top) ]
