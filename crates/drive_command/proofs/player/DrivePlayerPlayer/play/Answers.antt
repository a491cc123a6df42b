use Rattle.std.proofs.Common.{rules, ◌≡◌, ◌+◌, true, Some, None, Ok, Err}
use Rattle.record_cutting.specs.Lines.{record_of}
use Rattle.schedule_model.specs.Records.{event_of}
use Rattle.trace_model.specs.Driven.{driven_record, drives_on}
use Rattle.group_world.specs.declared.halt.Halt.TheVariants as halt
use Rattle.drive_command.specs.Course.{field}
use Rattle.drive_command.specs.Pieces.{counted_in}
use Rattle.drive_command.proofs.Composed.{nothing_plays, writes_as}
use Rattle.drive_command.proofs.Records.{fault_writes, plays_to, says_event, says_nothing}
use Rattle.drive_command.proofs.player.DrivePlayerPlayer.play.Goals as goal

pub returns-in-Ok-Some-clause-plays : goal.returns-in-Ok-Some-clause-plays
returns-in-Ok-Some-clause-plays c =
    let p = c.args.self.now in
    let q = c.play_said.new.self in
    let r = record_of c.args.fields.now in
    let e = c.in-Ok-Some.event in
    let reads : event_of true p.group.world.begun r ≡ Ok (Some e) = search rules in
    plays_to p q r _ _ c.play_said.result (writes_as (λ d. driven_record field d r) (λ d. drives_on field (counted_in d) e) p q _ _ c.play_said.result (says_event p r e reads) c.play_said.ensures.writes)

pub returns-in-Ok-None-clause-plays : goal.returns-in-Ok-None-clause-plays
returns-in-Ok-None-clause-plays c =
    let p = c.args.self.now in
    let q = c.count_record.new.self in
    let r = record_of c.args.fields.now in
    let reads : event_of true p.group.world.begun r ≡ Ok None = search rules in
    plays_to p q r _ _ (Ok (tt {0})) (nothing_plays (λ d. driven_record field d r) p q _ (tt {0}) (λ d st named. (counted_in d, says_nothing p r reads d st, c.count_record.ensures.counts.stands d st)))

pub returns-in-Err-Fault-clause-plays : goal.returns-in-Err-Fault-clause-plays
returns-in-Err-Fault-clause-plays c =
    let p = c.args.self.now in
    let r = record_of c.args.fields.now in
    let fault = c.in-Err-Fault.fault in
    let says : event_of true p.group.world.begun r ≡ Err fault = search rules in
    plays_to p p r _ _ c.stop_for.result
    (fault_writes p r (halt.Record (p.group.records + 1) c.cause.result c.field.result) fault _ _ c.stop_for.result says (λ i. halt.Record (p.group.records + 1) (c.cause.ensures i) (c.field.ensures i)) c.stop_for.ensures)
