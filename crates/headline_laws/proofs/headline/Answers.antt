use Rattle.std.specs.Prelude.{reverse}
use Rattle.trace_model.specs.Schedules.{world_of}
use Rattle.trace_model.specs.Driven.{driven, driven_world}
use Rattle.headline_laws.proofs.Headlines.{laws_in, acts_once}
use Rattle.headline_laws.proofs.headline.Goals as goal

pub returns-clause-played : goal.returns-clause-played
returns-clause-played c link bytes =
    laws_in link (world_of link bytes) (reverse (world_of link bytes).past) (c.schedules_are_runs.ensures.played link bytes) c.one_log_laws.ensures

pub returns-clause-driven : goal.returns-clause-driven
returns-clause-driven c link bytes bound none =
    let laws = laws_in link (driven_world link bytes) (driven link bytes) (c.schedules_are_runs.ensures.driven link bytes) c.one_log_laws.ensures bound none in
    (laws, acts_once (driven_world link bytes) laws)
