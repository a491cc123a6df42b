use Rattle.svr2_run.specs.Run.{status_halted}
use Rattle.svr2_run.specs.declared.words.Play.TheVariants.{Drive}
use Rattle.svr2_run.proofs.Ended.{never_field, never_refused, told_decided, told_runs}
use Rattle.svr2_run.proofs.Drives.{course, is_driven, means_no_field, means_no_refusal, one_ends}
use Rattle.svr2_run.proofs.plays.drive.Goals as goal

pub returns-clause-runs : goal.returns-clause-runs
returns-clause-runs g c =
    told_runs Drive course status_halted (is_driven c.calls_are_named.ensures.driven) _ _ _ _ c.play_source.result c.status_driven.result c.status_driven.ensures c.play_source.ensures.own_cause
    (one_ends c.calls_are_named.ensures.driven _ _ _ c.play_source.new.player _ _ _ _ c.play_source.result c.new-player.ensures.takes c.play_source.ensures.ends)

pub returns-clause-decided : goal.returns-clause-decided
returns-clause-decided g c =
    told_decided Drive course status_halted (is_driven c.calls_are_named.ensures.driven) _ _ _ _ c.play_source.result c.status_driven.result _ _ c.status_driven.ensures
    c.play_source.ensures.read_cause c.play_source.ensures.write_cause c.play_source.ensures.own_cause
    (one_ends c.calls_are_named.ensures.driven _ _ _ c.play_source.new.player _ _ _ _ c.play_source.result c.new-player.ensures.takes c.play_source.ensures.ends)

pub returns-clause-never_field : goal.returns-clause-never_field
returns-clause-never_field g c = never_field status_halted means_no_field c.play_source.result c.status_driven.result c.status_driven.ensures c.play_source.ensures.own_cause

pub returns-clause-never_refused : goal.returns-clause-never_refused
returns-clause-never_refused g c = never_refused status_halted means_no_refusal c.play_source.result c.status_driven.result c.status_driven.ensures
