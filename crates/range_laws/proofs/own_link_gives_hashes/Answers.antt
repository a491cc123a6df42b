use Rattle.range_laws.proofs.OwnLink.{own_link}
use Rattle.range_laws.proofs.own_link_gives_hashes.Goals as goal

pub returns : goal.returns
returns c h index e = own_link h index e
