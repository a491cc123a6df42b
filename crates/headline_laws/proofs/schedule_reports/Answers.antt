use Rattle.std.specs.Prelude.{reverse}
use Rattle.trace_model.specs.Schedules.{world_of}
use Rattle.trace_model.specs.Driven.{driven, driven_world}
use Rattle.headline_laws.proofs.Headlines.{reports_in}
use Rattle.headline_laws.proofs.schedule_reports.Goals as goal

pub returns-clause-played : goal.returns-clause-played
returns-clause-played c link bytes =
    reports_in link (world_of link bytes) (reverse (world_of link bytes).past) (c.schedules_are_runs.ensures.played link bytes) c.reports_follow.ensures

pub returns-clause-driven : goal.returns-clause-driven
returns-clause-driven c link bytes =
    reports_in link (driven_world link bytes) (driven link bytes) (c.schedules_are_runs.ensures.driven link bytes) c.reports_follow.ensures
