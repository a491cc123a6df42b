-- What a group may write from here on, by how its field's answers are understood.
use Rattle.std.specs.Prelude.{ℕ, ◌≡◌, ◌==◌, Bool, true, false, List, [], ◌++◌, length, Option, Some, None, Result, Ok, Err}
use Rattle.values.specs.declared.event.Event.{Event}
use Rattle.record_cutting.specs.Lines.{Record}
use Rattle.record_stream.specs.Course.{Course}
use Rattle.record_stream.specs.declared.player.Stop.{Stop as Stopping}
use Rattle.record_stream.specs.declared.player.Stop.TheVariants as stop
use Rattle.schedule_model.specs.Written.{Stop, AtField, Written, On, Off, last_of, no_closing, onto, stop_of, stopped_text, text_with}
use Rattle.trace_model.specs.Trace.{Playing, closing, expanded, played, records_played, settled, record_played}
use Rattle.enclave_host.specs.Fields.{Map}
use Rattle.group_world.specs.declared.halt.Halt.{Halt}
use Rattle.group_world.specs.declared.world.World.{World}
use Rattle.group_world.specs.Given.{Given}
use Rattle.group_world.specs.Halted.{halted_by, stop_by}
use Rattle.group_world.specs.Meanings.{Meaning, OfEnclaves, OfContents, Until, MessageOf, StateOf, model_of, AreNamed, Fits}
use Rattle.group_world.specs.Plays.{SeesPlaying, passed_in}
use Rattle.group_world.specs.Standing.{Runs}

-- ---- ways

-- a way that playing may go: how the field's answers are understood, and the schedule that is being played then
pub record Way : Type 0 where
  pub meaning : Meaning
  pub playing : Playing (MessageOf meaning) (StateOf meaning)

-- the field has no answers left
unfoldable pub is_spent : (m : Meaning) → StateOf m → Bool
is_spent OfEnclaves f = true
is_spent OfContents f = length f == 0
is_spent (Until m) f = is_spent m f.inner

-- what ended so asked for exactly what the field answered
abbrev pub asks_all : (m : Meaning) → Option Stop → StateOf m → Bool
asks_all m (Some AtField) f = false
asks_all m stop f = is_spent m f

-- the field failed
abbrev pub is_at_field : Option Stop → Bool
is_at_field (Some AtField) = true
is_at_field stop = false

abbrev pub close_by : {M F : Type 0} → Bool → Playing M F → List ℕ
close_by true = closing
close_by false = no_closing

-- It holds of records where all that the field was handed in them was named as it is without a collision.
abbrev pub course_of : (m : Meaning) → Playing (MessageOf m) (StateOf m) → Course Halt
course_of m p = record {
  holds = λ rs. AreNamed m (last_of (records_played (model_of m) p rs)).stands;
  text = λ closed rs. text_with (close_by closed) (records_played (model_of m) p rs);
  reason = λ rs. halted_by (stop_of (records_played (model_of m) p rs));
  failed = λ rs. is_at_field (stop_of (records_played (model_of m) p rs));
  takes_all = λ rs. asks_all m (stop_of (records_played (model_of m) p rs)) (last_of (records_played (model_of m) p rs)).stands;
}

abbrev pub course : Way → Course Halt
course way = course_of way.meaning way.playing

-- what is played after a record; where it ended the text, a group whose field stands there
abbrev pub gone_on : (m : Meaning) → Written (Playing (MessageOf m) (StateOf m)) → Playing (MessageOf m) (StateOf m)
gone_on m (On text q) = q
gone_on m (Off text stop q) = record q { group = record q.group { field = q.stands } }

-- the way that goes on after a record
abbrev pub next_way : Way → Record → Way
next_way way r = record { meaning = way.meaning; playing = gone_on way.meaning (record_played (model_of way.meaning) way.playing r) }

-- where the field fails, its answers are understood up to there alone
abbrev pub IsUpTo : Bool → Meaning → Type 0
IsUpTo false m = Unit {0}
IsUpTo true (Until m) = Unit {0}
IsUpTo true m = ⊥

-- a way that a group in code may take, over a field that tells this map and gives these answers
pub record Takes (w : World) (records : ℕ) (map : Option Map) (fails : Bool) (given : List Given) (way : Way) : Type 0 where
  pub up_to : IsUpTo fails way.meaning
  pub stands : way.playing.stands ≡ way.playing.group.field
  pub sees : AreNamed way.meaning way.playing.stands → SeesPlaying way.meaning w map given way.playing × (way.playing.records ≡ records)

-- a group in code can play on: who runs there runs in its field, and it has passed no limit
pub record CanPlay (w : World) (map : Option Map) : Type 0 where
  pub runs : Runs map w.running.items
  pub within : passed_in w ≡ None

-- ---- what one record plays

-- what is played of a schedule
abbrev pub Piece : Type 0
Piece = (m : Meaning) → Playing (MessageOf m) (StateOf m) → Written (Playing (MessageOf m) (StateOf m))

-- one event; at most so many deliveries; or what an event stands for
abbrev pub one_event : Event → Piece
one_event e m p = played (model_of m) p e

abbrev pub deliveries : ℕ → Piece
deliveries n m p = settled (model_of m) n p

abbrev pub all_of : Event → Piece
all_of e m p = expanded (model_of m) p e

-- what the field was handed in it was named as it is without a collision
abbrev pub IsNamedPiece : Piece → (m : Meaning) → Playing (MessageOf m) (StateOf m) → Type 0
IsNamedPiece what m p = AreNamed m (last_of (what m p)).stands

-- of such a piece: it was played and wrote this text; it wrote this text and ended there; it began with this text; and it
-- began with this text and ended where the field failed
module _ (what : Piece) (w w' : World) (map map' : Option Map) (given : List Given) (text : List ℕ) where
  abbrev pub PlaysOn : Type 0
  PlaysOn =
      (m : Meaning) (later : List Given) (p : Playing (MessageOf m) (StateOf m)) → SeesPlaying m w map (given ++ later) p → IsNamedPiece what m p
      → (q : Playing (MessageOf m) (StateOf m)) × (what m p ≡ On text q) × SeesPlaying m w' map' later q × (q.records ≡ p.records)

  abbrev pub PlaysOff : Stop → Type 0
  PlaysOff stop =
      (m : Meaning) (p : Playing (MessageOf m) (StateOf m)) → SeesPlaying m w map given p → IsNamedPiece what m p
      → (q : Playing (MessageOf m) (StateOf m)) × (what m p ≡ Off text stop q) × Fits m map' [] q.stands

  abbrev pub PlaysSome : Type 0
  PlaysSome =
      (m : Meaning) (p : Playing (MessageOf m) (StateOf m)) → SeesPlaying m w map given p → IsNamedPiece what m p
      → (rest : Written (Playing (MessageOf m) (StateOf m))) × (what m p ≡ onto text rest)

  abbrev pub PlaysUpTo : Type 0
  PlaysUpTo =
      (m : Meaning) (p : Playing (MessageOf (Until m)) (StateOf (Until m))) → SeesPlaying (Until m) w map given p → IsNamedPiece what (Until m) p
      → (q : Playing (MessageOf (Until m)) (StateOf (Until m))) × (what (Until m) p ≡ Off text AtField q)

-- what became of it, and by what the lines grew
abbrev pub Writes : {T : Type 0} → Piece → World → World → Option Map → Option Map → List Given → (before after : List ℕ) → Result T (Stopping Halt) → Type 0
Writes what w w' map map' given before after (Ok done) = (text : List ℕ) × (after ≡ before ++ text) × PlaysOn what w w' map map' given text
Writes what w w' map map' given before after (Err (stop.Stopped why)) =
    (text : List ℕ) × (after ≡ before ++ (text ++ stopped_text (stop_by why))) × PlaysOff what w w' map map' given text (stop_by why)
Writes what w w' map map' given before after (Err stop.Memory) = (text : List ℕ) × (after ≡ before ++ text) × PlaysSome what w w' map map' given text
Writes what w w' map map' given before after (Err stop.Failed) =
    (text : List ℕ) × (after ≡ before ++ text) × PlaysSome what w w' map map' given text × PlaysUpTo what w w' map map' given text
