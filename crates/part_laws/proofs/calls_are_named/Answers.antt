use Rattle.part_laws.proofs.DrivenPlayed.{driven_calls_are_named}
use Rattle.part_laws.proofs.Handed.{calls_are_named}
use Rattle.part_laws.proofs.Played.{played_calls_are_named, schedule_calls_are_named}
use Rattle.part_laws.proofs.calls_are_named.Goals as goal

pub returns-clause-runs : goal.returns-clause-runs
returns-clause-runs c = calls_are_named

pub returns-clause-played : goal.returns-clause-played
returns-clause-played c = played_calls_are_named

pub returns-clause-schedules : goal.returns-clause-schedules
returns-clause-schedules c = schedule_calls_are_named

pub returns-clause-driven : goal.returns-clause-driven
returns-clause-driven c = driven_calls_are_named
