use Rattle.std.specs.Prelude.{reverse}
use Rattle.trace_model.specs.Schedules.{world_of}
use Rattle.trace_model.specs.Driven.{driven, driven_world}
use Rattle.headline_laws.proofs.Headlines.{printed_in}
use Rattle.headline_laws.proofs.printed_headline.Goals as goal

pub returns-clause-played : goal.returns-clause-played
returns-clause-played c link bytes =
    let events = reverse (world_of link bytes).past in
    printed_in link (world_of link bytes) events (c.schedules_are_runs.ensures.played link bytes) c.one_log_laws.ensures (c.closing_lines_tell.ensures link events)

pub returns-clause-driven : goal.returns-clause-driven
returns-clause-driven c link bytes =
    printed_in link (driven_world link bytes) (driven link bytes) (c.schedules_are_runs.ensures.driven link bytes) c.one_log_laws.ensures (c.closing_lines_tell.ensures link (driven link bytes))
