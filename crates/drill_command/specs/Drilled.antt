-- A drill in code, as far as it is played, beside what is written of the model's.
use Rattle.std.specs.Prelude.{ℕ, ◌≡◌, ◌≤◌, Bool, true, false, List, [], ◌∷◌, ◌++◌, length, Some, None}
use Rattle.std.specs.List.{AllByRecursion}
use Rattle.sha2.specs.Hashers.{Holds256}
use Rattle.sha2.specs.Sha256.{sha256}
use Rattle.values.specs.declared.event.Event.{Event}
use Rattle.values.specs.declared.event.Event.TheVariants as event
use Rattle.schedule_model.specs.Written.{Written, follow, last_of, onto, stop_of, text_with}
use Rattle.replica_model.specs.Message.{Message}
use Rattle.group_model.specs.Run.{Enclaves, World}
use Rattle.trace_model.specs.Summary.{halts}
use Rattle.trace_model.specs.Trace.{Playing, closing, events_played}
use Rattle.group_world.specs.Meanings.{OfEnclaves, model_of, AreNamed}
use Rattle.group_world.specs.Playable.{IsPlayable}
use Rattle.group_world.specs.Playing.{CanPlay}
use Rattle.group_world.specs.Plays.{SeesPlaying}
use Rattle.group_world.specs.Scripts.{map_of}
use Rattle.drill_command.specs.declared.player.Player.{Player}
use Rattle.drill_command.specs.declared.tally.Tally.{Tally}
use Rattle.drill_command.specs.Counting.{AreCounts}
use Rattle.drill_command.specs.Tallies.{Counts}

-- ---- the model

abbrev pub Model : Type 0
Model = Playing Message Enclaves

-- the events that are still to be played
abbrev pub to_play : List Event → Model → Written Model
to_play events p = events_played (model_of OfEnclaves) p events

-- what is written of the whole goes on to its end, and each of its calls was named as it is without a collision
pub record IsWhole (whole : Written Model) : Type 0 where
  pub goes_on : stop_of whole ≡ None
  pub named : AreNamed OfEnclaves (last_of whole).stands

-- what was so named when this had been played was so named before it
abbrev pub KeepsNames : (Model → Written Model) → Type 0
KeepsNames next = (q : Model) → q.stands ≡ q.group.field → AreNamed OfEnclaves (last_of (next q)).stands → AreNamed OfEnclaves q.stands

-- there were no more hearings than events, and no more halts
pub record IsShort (w : World) : Type 0 where
  pub heard : length w.hearings ≤ length w.past
  pub halted : halts w ≤ length w.past

-- ---- the code

-- the drill in code stands where the model does from which this is what is still to be written of the whole
pub record Stands (d : Player) (whole : Written Model) (next : Model → Written Model) : Type 0 where
  pub at : Model
  pub text : List ℕ
  pub goes : whole ≡ onto text (next at)
  pub sees : SeesPlaying OfEnclaves d.world (Some (map_of d.field)) [] at
  pub hashed : Holds256 d.hasher text
  pub counted : AreCounts d.counts at.group
  pub short : IsShort at.group

-- it can be played on
abbrev pub IsLive : Player → Type 0
IsLive d = CanPlay d.world (Some (map_of d.field))

-- this piece of the whole was played
abbrev pub Goes : Player → Player → (Model → Written Model) → Type 0
Goes d d' piece =
    (whole : Written Model) (next : Model → Written Model) → IsWhole whole → KeepsNames next → Stands d whole (λ p. follow (piece p) next)
    → Stands d' whole next

-- a tally tells what the whole came to
pub record Tells (tally : Tally) (whole : Written Model) : Type 0 where
  pub counts : Counts tally (last_of whole).group
  pub trace : tally.trace.0 ≡ sha256 (text_with closing whole)

-- ---- events that may come next

-- a settle may always come
abbrev pub IsNext : Bool → Event → Type 0
IsNext begun (event.Settle n) = Unit {0}
IsNext begun e = IsPlayable begun e

-- it may come whether the group has begun or not
abbrev pub IsPlain : Event → Type 0
IsPlain e = (begun : Bool) → IsNext begun e

-- only the first of these may be a begin
abbrev pub AreNext : Bool → List Event → Type 0
AreNext begun [] = Unit {0}
AreNext begun (e ∷ events) = IsNext begun e × AllByRecursion IsPlain events
