-- The player stands for a driven schedule that is being played.
use Rattle.std.specs.Prelude.{◌≡◌, [], Some}
use Rattle.group_world.specs.Meanings.{OfEnclaves}
use Rattle.group_world.specs.Plays.{SeesPlaying}
use Rattle.group_world.specs.Playing.{CanPlay}
use Rattle.group_world.specs.Runs.{IsWithoutCollision}
use Rattle.group_world.specs.Scripts.{map_of}
use Rattle.drive_command.specs.Course.{Drives}
use Rattle.drive_command.specs.declared.player.DrivePlayer.{DrivePlayer}

-- its group is seen as the one that plays, with as many records read, and its driver is the one of all clients
pub record Stands (p : DrivePlayer) (d : Drives) : Type 0 where
  pub sees : SeesPlaying OfEnclaves p.group.world (Some (map_of p.group.field)) [] d.playing
  pub driver : d.driver ≡ p.driver
  pub records : d.playing.records ≡ p.group.records

-- so it does where what learners were handed was named as it is without a collision
pub record Takes (p : DrivePlayer) (d : Drives) : Type 0 where
  pub stands : d.playing.stands ≡ d.playing.group.field
  pub sees : IsWithoutCollision d.playing.stands → Stands p d

-- it can play on
abbrev pub IsLive : DrivePlayer → Type 0
IsLive p = CanPlay p.group.world (Some (map_of p.group.field))
