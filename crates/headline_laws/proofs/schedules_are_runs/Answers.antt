use Rattle.headline_laws.proofs.Played.{schedules_are_runs}
use Rattle.headline_laws.proofs.Driving.{driven_are_runs}
use Rattle.headline_laws.proofs.schedules_are_runs.Goals as goal

pub returns-clause-played : goal.returns-clause-played
returns-clause-played c = schedules_are_runs

pub returns-clause-driven : goal.returns-clause-driven
returns-clause-driven c = driven_are_runs
