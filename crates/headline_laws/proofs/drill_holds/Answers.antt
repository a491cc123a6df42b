use Rattle.headline_laws.proofs.Told.{drill_holds_of}
use Rattle.headline_laws.proofs.drill_holds.Goals as goal

pub returns : goal.returns
returns c link seed clients none = drill_holds_of c.one_log_laws.ensures c.no_halt.ensures link seed clients none
