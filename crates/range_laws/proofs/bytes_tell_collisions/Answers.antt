use Rattle.std.specs.Prelude.{length}
use Rattle.replica_model.specs.Linked.{sha_link}
use Rattle.group_model.specs.Run.{run}
use Rattle.range_laws.proofs.Events.{run_in}
use Rattle.range_laws.proofs.OwnLink.{own_link}
use Rattle.range_laws.proofs.Colliding.{no_collision}
use Rattle.range_laws.proofs.bytes_tell_collisions.Goals as goal

pub returns : goal.returns
returns c events few fine none =
    no_collision c.bytes_tell_inputs.ensures c.bytes_tell_bodies.ensures (length events) few (run sha_link events) (run_in sha_link own_link events few fine).field.history none
