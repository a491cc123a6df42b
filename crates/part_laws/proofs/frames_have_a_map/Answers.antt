use Rattle.part_laws.proofs.Sessions.{frames_have_a_map}
use Rattle.part_laws.proofs.frames_have_a_map.Goals as goal

pub returns : goal.returns
returns c s = frames_have_a_map _
