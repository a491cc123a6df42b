use Rattle.part_laws.proofs.Map.{parts_have_a_map}
use Rattle.part_laws.proofs.parts_have_a_map.Goals as goal

pub returns : goal.returns
returns c = parts_have_a_map
