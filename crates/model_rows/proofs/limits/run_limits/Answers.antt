use Rattle.std.proofs.Common.{refl}
use Rattle.model_rows.proofs.limits.run_limits.Goals as goal

pub returns : goal.returns
returns c = record { events = refl; messages = refl; answers = refl; replicas = refl; states = refl; clients = refl; turns = refl }
