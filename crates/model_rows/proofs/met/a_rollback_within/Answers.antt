use Rattle.std.proofs.Common.{refl}
use Rattle.model_rows.specs.Broken.{revoted}
use Rattle.model_rows.specs.Toy.{toy_link}
use Rattle.model_rows.proofs.Computing.{computing}
use Rattle.model_rows.proofs.Premises.{no_collision, within_bound}
use Rattle.model_rows.proofs.met.a_rollback_within.Goals as goal

pub returns : goal.returns
unfolding computing
returns c = record { within = within_bound toy_link revoted refl refl; apart = no_collision toy_link revoted refl }
