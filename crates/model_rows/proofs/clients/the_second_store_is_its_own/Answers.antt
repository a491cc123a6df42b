use Rattle.std.proofs.Common.{refl}
use Rattle.model_rows.specs.StoredTwice.{stored_twice}
use Rattle.model_rows.proofs.Computing.{computing}
use Rattle.model_rows.proofs.StoredTwice.{own_places}
use Rattle.model_rows.proofs.clients.the_second_store_is_its_own.Goals as goal

pub returns : goal.returns
unfolding computing
returns c = own_places stored_twice stored_twice.hearings refl
