use Rattle.svr2_run.specs.Run.{table_status_for}
use Rattle.svr2_run.specs.declared.words.Play.TheVariants.{Table}
use Rattle.svr2_run.proofs.Ended.{never_field, never_refused, told_decided, told_runs}
use Rattle.svr2_run.proofs.Tables.{course, is_table, means_no_field, means_no_refusal, never_frame, one_ends}
use Rattle.svr2_run.proofs.plays.table.Goals as goal

pub returns-clause-runs : goal.returns-clause-runs
returns-clause-runs g c =
    told_runs (Table c.args.rows) (course c.args.rows) table_status_for (is_table c.args.rows) _ _ _ _ c.play_source.result c.status_of.result c.status_of.ensures c.play_source.ensures.own_cause
    (one_ends c.args.rows _ c.play_source.new.player _ _ _ _ c.play_source.result c.new-player.ensures c.play_source.ensures.ends)

pub returns-clause-decided : goal.returns-clause-decided
returns-clause-decided g c =
    told_decided (Table c.args.rows) (course c.args.rows) table_status_for (is_table c.args.rows) _ _ _ _ c.play_source.result c.status_of.result _ _ c.status_of.ensures
    c.play_source.ensures.read_cause c.play_source.ensures.write_cause c.play_source.ensures.own_cause
    (one_ends c.args.rows _ c.play_source.new.player _ _ _ _ c.play_source.result c.new-player.ensures c.play_source.ensures.ends)

pub returns-clause-never_field : goal.returns-clause-never_field
returns-clause-never_field g c = never_field table_status_for means_no_field c.play_source.result c.status_of.result c.status_of.ensures c.play_source.ensures.own_cause

pub returns-clause-never_frame : goal.returns-clause-never_frame
returns-clause-never_frame g c = never_frame c.play_source.result c.status_of.result c.status_of.ensures

pub returns-clause-never_refused : goal.returns-clause-never_refused
returns-clause-never_refused g c = never_refused table_status_for means_no_refusal c.play_source.result c.status_of.result c.status_of.ensures
