use Rattle.std.proofs.Common.{rules, ◌≡◌, map, string_bytes, Some}
use Rattle.replica_model.specs.Linked.{sha_link}
use Rattle.svr2_run.specs.Words.{command_of, tagging_of}
use Rattle.svr2_run.specs.declared.words.Command.TheVariants as command
use Rattle.svr2_run.specs.declared.words.Play.TheVariants.{Drive, Replay, Table}
use Rattle.svr2_run.proofs.Auditing.{unread_audit, unread_decides}
use Rattle.svr2_run.proofs.Drilling.{one_drill}
use Rattle.svr2_run.proofs.Groups.{unread_decides as undecided_group, unread_group}
use Rattle.svr2_run.proofs.Serves.{unread_session}
use Rattle.svr2_run.proofs.Unread.{command_plays, memory_is_no_frame, unread_run}
use Rattle.svr2_run.proofs.command.run.Goals as goal

pub returns-in-Ok-Some-Play-Replay-clause-plays : goal.returns-in-Ok-Some-Play-Replay-clause-plays
returns-in-Ok-Some-Play-Replay-clause-plays g c =
    let is : command_of (map string_bytes c.args.words.now) ≡ Some (command.Play Replay) = search rules in
    command_plays _ Replay _ is c.replay.ensures.runs

pub returns-in-Ok-Some-Play-Replay-clause-decided : goal.returns-in-Ok-Some-Play-Replay-clause-decided
returns-in-Ok-Some-Play-Replay-clause-decided g c =
    let is : command_of (map string_bytes c.args.words.now) ≡ Some (command.Play Replay) = search rules in
    command_plays _ Replay _ is c.replay.ensures.decided

pub returns-in-Ok-Some-Play-Replay-clause-reports : goal.returns-in-Ok-Some-Play-Replay-clause-reports
returns-in-Ok-Some-Play-Replay-clause-reports g c = c.schedule_reports.ensures.played sha_link

pub returns-in-Ok-Some-Play-Table-clause-plays : goal.returns-in-Ok-Some-Play-Table-clause-plays
returns-in-Ok-Some-Play-Table-clause-plays g c =
    let is : command_of (map string_bytes c.args.words.now) ≡ Some (command.Play (Table c.in-Ok-Some-Play-Table.limit)) = search rules in
    command_plays _ (Table c.in-Ok-Some-Play-Table.limit) _ is c.table.ensures.runs

pub returns-in-Ok-Some-Play-Table-clause-decided : goal.returns-in-Ok-Some-Play-Table-clause-decided
returns-in-Ok-Some-Play-Table-clause-decided g c =
    let is : command_of (map string_bytes c.args.words.now) ≡ Some (command.Play (Table c.in-Ok-Some-Play-Table.limit)) = search rules in
    command_plays _ (Table c.in-Ok-Some-Play-Table.limit) _ is c.table.ensures.decided

pub returns-in-Ok-Some-Play-Table-clause-reports : goal.returns-in-Ok-Some-Play-Table-clause-reports
returns-in-Ok-Some-Play-Table-clause-reports g c = c.schedule_reports.ensures.played sha_link

pub returns-in-Ok-Some-Serve-clause-reports : goal.returns-in-Ok-Some-Serve-clause-reports
returns-in-Ok-Some-Serve-clause-reports g c = c.schedule_reports.ensures.played sha_link

pub returns-in-Ok-Some-Tagged-clause-reports : goal.returns-in-Ok-Some-Tagged-clause-reports
returns-in-Ok-Some-Tagged-clause-reports g c = c.schedule_reports.ensures.played sha_link

pub returns-in-Ok-None-clause-reports : goal.returns-in-Ok-None-clause-reports
returns-in-Ok-None-clause-reports g c = c.schedule_reports.ensures.played sha_link

pub returns-in-Err-clause-reports : goal.returns-in-Err-clause-reports
returns-in-Err-clause-reports g c = c.schedule_reports.ensures.played sha_link

pub returns-in-Err-clause-plays : goal.returns-in-Err-clause-plays
returns-in-Err-clause-plays g c = unread_run _ _ _

pub returns-in-Err-clause-serves : goal.returns-in-Err-clause-serves
returns-in-Err-clause-serves g c =
    unread_session (tagging_of (map string_bytes c.args.words.now)) (g.S.Source.left c.args.source.now) (g.K.Sink.taken c.args.sink.now)

pub returns-in-Ok-Some-Play-Replay-clause-frame_serves : goal.returns-in-Ok-Some-Play-Replay-clause-frame_serves
returns-in-Ok-Some-Play-Replay-clause-frame_serves g c =
    let is : command_of (map string_bytes c.args.words.now) ≡ Some (command.Play Replay) = search rules in
    command_plays _ Replay _ is tt

pub returns-in-Ok-Some-Play-Table-clause-frame_serves : goal.returns-in-Ok-Some-Play-Table-clause-frame_serves
returns-in-Ok-Some-Play-Table-clause-frame_serves g c =
    let is : command_of (map string_bytes c.args.words.now) ≡ Some (command.Play (Table c.in-Ok-Some-Play-Table.limit)) = search rules in
    command_plays _ (Table c.in-Ok-Some-Play-Table.limit) _ is c.table.ensures.never_frame

pub returns-in-Err-clause-frame_serves : goal.returns-in-Err-clause-frame_serves
returns-in-Err-clause-frame_serves g c = memory_is_no_frame _

pub returns-in-Ok-Some-Audit-clause-audits : goal.returns-in-Ok-Some-Audit-clause-audits
returns-in-Ok-Some-Audit-clause-audits g c = λ is. c.audit.ensures.audits

pub returns-in-Ok-Some-Audit-clause-trace_decides : goal.returns-in-Ok-Some-Audit-clause-trace_decides
returns-in-Ok-Some-Audit-clause-trace_decides g c = λ is. c.audit.ensures.decided

pub returns-in-Ok-Some-Audit-clause-reports : goal.returns-in-Ok-Some-Audit-clause-reports
returns-in-Ok-Some-Audit-clause-reports g c = c.schedule_reports.ensures.played sha_link

pub returns-in-Err-clause-audits : goal.returns-in-Err-clause-audits
returns-in-Err-clause-audits g c = λ is. unread_audit _ _

pub returns-in-Err-clause-trace_decides : goal.returns-in-Err-clause-trace_decides
returns-in-Err-clause-trace_decides g c = λ is. unread_decides _ _ _

pub returns-in-Ok-Some-Group-clause-groups : goal.returns-in-Ok-Some-Group-clause-groups
returns-in-Ok-Some-Group-clause-groups g c = λ is. c.group.ensures.groups

pub returns-in-Ok-Some-Group-clause-group_decided : goal.returns-in-Ok-Some-Group-clause-group_decided
returns-in-Ok-Some-Group-clause-group_decided g c = λ is. c.group.ensures.decided

pub returns-in-Ok-Some-Group-clause-group_replays : goal.returns-in-Ok-Some-Group-clause-group_replays
returns-in-Ok-Some-Group-clause-group_replays g c = λ is. c.group.ensures.replays

pub returns-in-Ok-Some-Group-clause-reports : goal.returns-in-Ok-Some-Group-clause-reports
returns-in-Ok-Some-Group-clause-reports g c = c.schedule_reports.ensures.played sha_link

pub returns-in-Err-clause-groups : goal.returns-in-Err-clause-groups
returns-in-Err-clause-groups g c = λ is. unread_group _ _ _ _

pub returns-in-Err-clause-group_decided : goal.returns-in-Err-clause-group_decided
returns-in-Err-clause-group_decided g c = λ is. undecided_group _ _ _ _ _ _

pub returns-in-Err-clause-group_replays : goal.returns-in-Err-clause-group_replays
returns-in-Err-clause-group_replays g c = λ is tells never. unread_run (Some Replay) _ _

pub returns-in-Ok-Some-Drill-clause-drills : goal.returns-in-Ok-Some-Drill-clause-drills
returns-in-Ok-Some-Drill-clause-drills g c =
    let is : command_of (map string_bytes c.args.words.now) ≡ Some (command.Drill c.in-Ok-Some-Drill.seed c.in-Ok-Some-Drill.clients) = search rules in
    one_drill _ c.in-Ok-Some-Drill.seed c.in-Ok-Some-Drill.clients _ is c.drill.ensures.drills

pub returns-in-Ok-Some-Drill-clause-reports : goal.returns-in-Ok-Some-Drill-clause-reports
returns-in-Ok-Some-Drill-clause-reports g c = c.schedule_reports.ensures.played sha_link

pub returns-in-Ok-Some-Play-Drive-clause-plays : goal.returns-in-Ok-Some-Play-Drive-clause-plays
returns-in-Ok-Some-Play-Drive-clause-plays g c =
    let is : command_of (map string_bytes c.args.words.now) ≡ Some (command.Play Drive) = search rules in
    command_plays _ Drive _ is c.drive.ensures.runs

pub returns-in-Ok-Some-Play-Drive-clause-decided : goal.returns-in-Ok-Some-Play-Drive-clause-decided
returns-in-Ok-Some-Play-Drive-clause-decided g c =
    let is : command_of (map string_bytes c.args.words.now) ≡ Some (command.Play Drive) = search rules in
    command_plays _ Drive _ is c.drive.ensures.decided

pub returns-in-Ok-Some-Play-Drive-clause-frame_serves : goal.returns-in-Ok-Some-Play-Drive-clause-frame_serves
returns-in-Ok-Some-Play-Drive-clause-frame_serves g c =
    let is : command_of (map string_bytes c.args.words.now) ≡ Some (command.Play Drive) = search rules in
    command_plays _ Drive _ is tt

pub returns-in-Ok-Some-Play-Drive-clause-reports : goal.returns-in-Ok-Some-Play-Drive-clause-reports
returns-in-Ok-Some-Play-Drive-clause-reports g c = c.schedule_reports.ensures.played sha_link

pub returns-in-Ok-Some-Play-Replay-clause-driven_one_log : goal.returns-in-Ok-Some-Play-Replay-clause-driven_one_log
returns-in-Ok-Some-Play-Replay-clause-driven_one_log g c = λ bytes within none. (c.headline.ensures.driven sha_link bytes within none).0

pub returns-in-Ok-Some-Play-Replay-clause-acts_once : goal.returns-in-Ok-Some-Play-Replay-clause-acts_once
returns-in-Ok-Some-Play-Replay-clause-acts_once g c = λ bytes within none. (c.headline.ensures.driven sha_link bytes within none).1

pub returns-in-Ok-Some-Play-Replay-clause-driven_reports : goal.returns-in-Ok-Some-Play-Replay-clause-driven_reports
returns-in-Ok-Some-Play-Replay-clause-driven_reports g c = c.schedule_reports.ensures.driven sha_link

pub returns-in-Ok-Some-Play-Drive-clause-driven_one_log : goal.returns-in-Ok-Some-Play-Drive-clause-driven_one_log
returns-in-Ok-Some-Play-Drive-clause-driven_one_log g c = λ bytes within none. (c.headline.ensures.driven sha_link bytes within none).0

pub returns-in-Ok-Some-Play-Drive-clause-acts_once : goal.returns-in-Ok-Some-Play-Drive-clause-acts_once
returns-in-Ok-Some-Play-Drive-clause-acts_once g c = λ bytes within none. (c.headline.ensures.driven sha_link bytes within none).1

pub returns-in-Ok-Some-Play-Drive-clause-driven_reports : goal.returns-in-Ok-Some-Play-Drive-clause-driven_reports
returns-in-Ok-Some-Play-Drive-clause-driven_reports g c = c.schedule_reports.ensures.driven sha_link

pub returns-in-Ok-Some-Play-Table-clause-driven_one_log : goal.returns-in-Ok-Some-Play-Table-clause-driven_one_log
returns-in-Ok-Some-Play-Table-clause-driven_one_log g c = λ bytes within none. (c.headline.ensures.driven sha_link bytes within none).0

pub returns-in-Ok-Some-Play-Table-clause-acts_once : goal.returns-in-Ok-Some-Play-Table-clause-acts_once
returns-in-Ok-Some-Play-Table-clause-acts_once g c = λ bytes within none. (c.headline.ensures.driven sha_link bytes within none).1

pub returns-in-Ok-Some-Play-Table-clause-driven_reports : goal.returns-in-Ok-Some-Play-Table-clause-driven_reports
returns-in-Ok-Some-Play-Table-clause-driven_reports g c = c.schedule_reports.ensures.driven sha_link

pub returns-in-Ok-Some-Group-clause-driven_one_log : goal.returns-in-Ok-Some-Group-clause-driven_one_log
returns-in-Ok-Some-Group-clause-driven_one_log g c = λ bytes within none. (c.headline.ensures.driven sha_link bytes within none).0

pub returns-in-Ok-Some-Group-clause-acts_once : goal.returns-in-Ok-Some-Group-clause-acts_once
returns-in-Ok-Some-Group-clause-acts_once g c = λ bytes within none. (c.headline.ensures.driven sha_link bytes within none).1

pub returns-in-Ok-Some-Group-clause-driven_reports : goal.returns-in-Ok-Some-Group-clause-driven_reports
returns-in-Ok-Some-Group-clause-driven_reports g c = c.schedule_reports.ensures.driven sha_link

pub returns-in-Ok-Some-Serve-clause-driven_one_log : goal.returns-in-Ok-Some-Serve-clause-driven_one_log
returns-in-Ok-Some-Serve-clause-driven_one_log g c = λ bytes within none. (c.headline.ensures.driven sha_link bytes within none).0

pub returns-in-Ok-Some-Serve-clause-acts_once : goal.returns-in-Ok-Some-Serve-clause-acts_once
returns-in-Ok-Some-Serve-clause-acts_once g c = λ bytes within none. (c.headline.ensures.driven sha_link bytes within none).1

pub returns-in-Ok-Some-Serve-clause-driven_reports : goal.returns-in-Ok-Some-Serve-clause-driven_reports
returns-in-Ok-Some-Serve-clause-driven_reports g c = c.schedule_reports.ensures.driven sha_link

pub returns-in-Ok-Some-Tagged-clause-driven_one_log : goal.returns-in-Ok-Some-Tagged-clause-driven_one_log
returns-in-Ok-Some-Tagged-clause-driven_one_log g c = λ bytes within none. (c.headline.ensures.driven sha_link bytes within none).0

pub returns-in-Ok-Some-Tagged-clause-acts_once : goal.returns-in-Ok-Some-Tagged-clause-acts_once
returns-in-Ok-Some-Tagged-clause-acts_once g c = λ bytes within none. (c.headline.ensures.driven sha_link bytes within none).1

pub returns-in-Ok-Some-Tagged-clause-driven_reports : goal.returns-in-Ok-Some-Tagged-clause-driven_reports
returns-in-Ok-Some-Tagged-clause-driven_reports g c = c.schedule_reports.ensures.driven sha_link

pub returns-in-Ok-Some-Audit-clause-driven_one_log : goal.returns-in-Ok-Some-Audit-clause-driven_one_log
returns-in-Ok-Some-Audit-clause-driven_one_log g c = λ bytes within none. (c.headline.ensures.driven sha_link bytes within none).0

pub returns-in-Ok-Some-Audit-clause-acts_once : goal.returns-in-Ok-Some-Audit-clause-acts_once
returns-in-Ok-Some-Audit-clause-acts_once g c = λ bytes within none. (c.headline.ensures.driven sha_link bytes within none).1

pub returns-in-Ok-Some-Audit-clause-driven_reports : goal.returns-in-Ok-Some-Audit-clause-driven_reports
returns-in-Ok-Some-Audit-clause-driven_reports g c = c.schedule_reports.ensures.driven sha_link

pub returns-in-Ok-Some-Drill-clause-driven_one_log : goal.returns-in-Ok-Some-Drill-clause-driven_one_log
returns-in-Ok-Some-Drill-clause-driven_one_log g c = λ bytes within none. (c.headline.ensures.driven sha_link bytes within none).0

pub returns-in-Ok-Some-Drill-clause-acts_once : goal.returns-in-Ok-Some-Drill-clause-acts_once
returns-in-Ok-Some-Drill-clause-acts_once g c = λ bytes within none. (c.headline.ensures.driven sha_link bytes within none).1

pub returns-in-Ok-Some-Drill-clause-driven_reports : goal.returns-in-Ok-Some-Drill-clause-driven_reports
returns-in-Ok-Some-Drill-clause-driven_reports g c = c.schedule_reports.ensures.driven sha_link

pub returns-in-Ok-None-clause-driven_one_log : goal.returns-in-Ok-None-clause-driven_one_log
returns-in-Ok-None-clause-driven_one_log g c = λ bytes within none. (c.headline.ensures.driven sha_link bytes within none).0

pub returns-in-Ok-None-clause-acts_once : goal.returns-in-Ok-None-clause-acts_once
returns-in-Ok-None-clause-acts_once g c = λ bytes within none. (c.headline.ensures.driven sha_link bytes within none).1

pub returns-in-Ok-None-clause-driven_reports : goal.returns-in-Ok-None-clause-driven_reports
returns-in-Ok-None-clause-driven_reports g c = c.schedule_reports.ensures.driven sha_link

pub returns-in-Err-clause-driven_one_log : goal.returns-in-Err-clause-driven_one_log
returns-in-Err-clause-driven_one_log g c = λ bytes within none. (c.headline.ensures.driven sha_link bytes within none).0

pub returns-in-Err-clause-acts_once : goal.returns-in-Err-clause-acts_once
returns-in-Err-clause-acts_once g c = λ bytes within none. (c.headline.ensures.driven sha_link bytes within none).1

pub returns-in-Err-clause-driven_reports : goal.returns-in-Err-clause-driven_reports
returns-in-Err-clause-driven_reports g c = c.schedule_reports.ensures.driven sha_link
