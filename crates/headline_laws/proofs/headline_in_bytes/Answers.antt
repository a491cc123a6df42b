use Rattle.replica_model.specs.Linked.{sha_link}
use Rattle.headline_laws.proofs.headline_in_bytes.Goals as goal

pub returns : goal.returns
returns c bytes bound none = c.headline.ensures.played sha_link bytes bound (c.bytes_tell_schedules.ensures bytes none)
