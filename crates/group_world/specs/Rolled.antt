-- What is kept of a roll beside its batch.
use Rattle.group_model.specs.Group.{Group}
use Rattle.group_model.specs.Happens.{Came, Refused, Replied, Reported, Passed, rolled_back}
use Rattle.group_world.specs.declared.came.Came as code
use Rattle.group_world.specs.declared.world.World.{World}
use Rattle.group_world.specs.Meanings.{Meaning, MessageOf, StateOf, model_of, SaysMessage}
use Rattle.group_world.specs.Plays.{came_of}
use Rattle.group_world.specs.Standing.{IsWorld}

-- an accepted roll makes its replica a rolled-back one
abbrev pub after_roll : (m : Meaning) → Came → Group (MessageOf m) (StateOf m) → Group (MessageOf m) (StateOf m)
after_roll m (Refused refusal) g = g
after_roll m (Replied r batch) g = rolled_back (model_of m) r batch g
after_roll m (Reported client report) g = g
after_roll m Passed g = g

-- the world keeps this of a roll
abbrev pub NotesRoll : World → World → code.Came → Type 0
NotesRoll w w' c = (m : Meaning) (g : Group (MessageOf m) (StateOf m)) → IsWorld (SaysMessage m) w g → IsWorld (SaysMessage m) w' (after_roll m (came_of c) g)
