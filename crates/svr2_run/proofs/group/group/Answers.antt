use Rattle.svr2_run.proofs.Groups.{told_decides, told_groups}
use Rattle.svr2_run.proofs.Refusals.{replay_refuses}
use Rattle.svr2_run.proofs.Replays.{not_failed, told_replays}
use Rattle.svr2_run.proofs.group.group.Goals as goal

pub returns-clause-groups : goal.returns-clause-groups
returns-clause-groups g c =
    told_groups _ _ _ _ _ _ _ _ c.play-played.result.0 c.status_played.result c.status_played.ensures
    c.play-played.ensures.trace c.play-played.ensures.failed c.play-played.ensures.replicas c.play-played.ensures.contents

pub returns-clause-decided : goal.returns-clause-decided
returns-clause-decided g c =
    told_decides _ _ _ _ c.play-played.result.0 c.status_played.result _ _ _ c.status_played.ensures c.play-played.ensures.decided

pub returns-clause-replays : goal.returns-clause-replays
returns-clause-replays g c = λ tells never.
    told_replays c.calls_are_named.ensures.played _ _ _ _ _ c.play-played.result.0 c.status_played.result c.status_played.ensures tells
    (not_failed c.play-played.result.0 c.status_played.result c.status_played.ensures never) c.play-played.ensures.trace

pub returns-clause-never_refused : goal.returns-clause-never_refused
returns-clause-never_refused g c = replay_refuses c.play-played.result.0 c.status_played.result c.status_played.ensures
