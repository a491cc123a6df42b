use Rattle.std.proofs.Common.{refl, Some}
use Rattle.group_world.specs.Scripts.{map_of}
use Rattle.svr2_run.proofs.Refusals.{replay_refuses}
use Rattle.svr2_run.proofs.Replays.{never_fails, none_rose, told_decided, told_replays}
use Rattle.svr2_run.proofs.plays.replay.Goals as goal

pub returns-clause-runs : goal.returns-clause-runs
returns-clause-runs g c =
    told_replays c.calls_are_named.ensures.played (Some (map_of c.new.result)) _ _ _ _ c.play-played.result.0 c.status_played.result c.status_played.ensures refl
    (λ e. none_rose (c.play-played.ensures.field_cause e)) c.play-played.ensures.trace

pub returns-clause-decided : goal.returns-clause-decided
returns-clause-decided g c =
    told_decided c.calls_are_named.ensures.played (Some (map_of c.new.result)) _ _ _ c.play-played.result.0 c.status_played.result _ _ _ c.status_played.ensures refl none_rose
    c.play-played.ensures.decided

pub returns-clause-never_field : goal.returns-clause-never_field
returns-clause-never_field g c = never_fails c.play-played.result.0 c.status_played.result c.status_played.ensures c.play-played.ensures.field_cause

pub returns-clause-never_refused : goal.returns-clause-never_refused
returns-clause-never_refused g c = replay_refuses c.play-played.result.0 c.status_played.result c.status_played.ensures
