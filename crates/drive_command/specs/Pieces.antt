-- What the player does of a piece of a driven schedule, and what it writes.
use Rattle.std.specs.Prelude.{ℕ, ◌≡◌, ◌+◌, List, ◌++◌, Result, Ok, Err}
use Rattle.record_stream.specs.declared.player.Stop.{Stop as Stopping}
use Rattle.record_stream.specs.declared.player.Stop.TheVariants as stop
use Rattle.schedule_model.specs.Written.{Stop, Written, On, Off, last_of, onto, stopped_text}
use Rattle.trace_model.specs.Trace.{counted}
use Rattle.group_world.specs.Halted.{stop_by}
use Rattle.group_world.specs.Runs.{IsWithoutCollision}
use Rattle.group_world.specs.declared.halt.Halt.{Halt}
use Rattle.drive_command.specs.Course.{Drives}
use Rattle.drive_command.specs.Standing.{Stands}
use Rattle.drive_command.specs.declared.player.DrivePlayer.{DrivePlayer}

-- what is played of a schedule
abbrev pub Piece : Type 0
Piece = Drives → Written Drives

-- one more record was read
abbrev pub counted_in : Drives → Drives
counted_in d = record d { playing = counted d.playing }

-- and in the player nothing else has changed
pub record Counts (p q : DrivePlayer) : Type 0 where
  pub stands : (d : Drives) → Stands p d → Stands q (counted_in d)
  pub records : q.group.records ≡ p.group.records + 1
  pub world : q.group.world ≡ p.group.world
  pub field : q.group.field ≡ p.group.field

-- what learners were handed in it was named as it is without a collision
abbrev pub IsNamedTill : Written Drives → Type 0
IsNamedTill w = IsWithoutCollision (last_of w).playing.stands

-- of such a piece: it was played and wrote this text; it wrote this text and ended there; and it began with this text
module _ (what : Piece) (p : DrivePlayer) (text : List ℕ) where
  abbrev pub PlaysOn : DrivePlayer → Type 0
  PlaysOn q = (d : Drives) → Stands p d → IsNamedTill (what d) → (e : Drives) × (what d ≡ On text e) × Stands q e

  abbrev pub PlaysOff : Stop → Type 0
  PlaysOff stop = (d : Drives) → Stands p d → IsNamedTill (what d) → (e : Drives) × (what d ≡ Off text stop e)

  abbrev pub PlaysSome : Type 0
  PlaysSome = (d : Drives) → Stands p d → IsNamedTill (what d) → (rest : Written Drives) × (what d ≡ onto text rest)

-- what became of it, and by what the lines grew
abbrev pub Writes : {T : Type 0} → Piece → DrivePlayer → DrivePlayer → (before after : List ℕ) → Result T (Stopping Halt) → Type 0
Writes what p q before after (Ok done) = (text : List ℕ) × (after ≡ before ++ text) × PlaysOn what p text q
Writes what p q before after (Err (stop.Stopped why)) =
    (text : List ℕ) × (after ≡ before ++ (text ++ stopped_text (stop_by why))) × PlaysOff what p text (stop_by why)
Writes what p q before after (Err stop.Memory) = (text : List ℕ) × (after ≡ before ++ text) × PlaysSome what p text
Writes what p q before after (Err stop.Failed) = ⊥
