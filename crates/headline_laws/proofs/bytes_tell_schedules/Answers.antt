use Rattle.headline_laws.proofs.Ranged.{bytes_tell_schedules}
use Rattle.headline_laws.proofs.bytes_tell_schedules.Goals as goal

pub returns : goal.returns
returns c = bytes_tell_schedules c.bytes_tell_inputs.ensures c.bytes_tell_bodies.ensures
