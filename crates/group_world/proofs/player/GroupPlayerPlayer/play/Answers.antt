use Rattle.std.proofs.Common.{rules, sym, ◌≡◌, ◌+◌, false, Some, None, Ok, Err, append-nil, []}
use Rattle.record_cutting.specs.Lines.{record_of}
use Rattle.schedule_model.specs.Records.{event_of}
use Rattle.group_world.specs.declared.halt.Halt.TheVariants as halt
use Rattle.group_world.specs.Openings.{gains_none}
use Rattle.group_world.proofs.Playing.{event_played, fault_played, next_records, none_played, remark_goes}
use Rattle.group_world.proofs.player.GroupPlayerPlayer.play.Goals as goal

pub returns-in-Ok-Some-clause-plays : goal.returns-in-Ok-Some-clause-plays
returns-in-Ok-Some-clause-plays g c =
    let p = c.args.self.now in
    let q = c.play_said.new.self in
    let r = record_of c.args.fields.now in
    let reads : event_of false p.world.begun r ≡ Ok (Some c.in-Ok-Some.event) = search rules in
    let (given, gained, writes) = c.play_said.ensures.writes in
    event_played _ _ p q p.world q.world p.records (g.F.Field.map p.field) (g.F.Field.map q.field) r c.in-Ok-Some.event reads given gained (λ fails ds way taken. taken) _ _ c.play_said.result
    (next_records q.world p.records q.records (g.F.Field.map q.field) c.play_said.result c.play_said.ensures.records) writes

pub returns-in-Ok-None-clause-plays : goal.returns-in-Ok-None-clause-plays
returns-in-Ok-None-clause-plays g c =
    let p = c.args.self.now in
    let r = record_of c.args.fields.now in
    let reads : event_of false p.world.begun r ≡ Ok None = search rules in
    ([], record { given = []; gained = gains_none _; goes = λ fails later way taken. remark_goes p.world p.records (g.F.Field.map p.field) r reads fails later way taken }, sym (append-nil _))

pub returns-in-Err-Memory-clause-plays : goal.returns-in-Err-Memory-clause-plays
returns-in-Err-Memory-clause-plays g c =
    let p = c.args.self.now in
    none_played _ _ p p p.world p.records (g.F.Field.map p.field) (record_of c.args.fields.now) (gains_none _) (λ fails ds way taken. taken) _

pub returns-in-Err-Fault-clause-plays : goal.returns-in-Err-Fault-clause-plays
returns-in-Err-Fault-clause-plays g c =
    let p = c.args.self.now in
    let r = record_of c.args.fields.now in
    let says : event_of false p.world.begun r ≡ Err c.in-Err-Fault.fault = search rules in
    fault_played _ _ p p p.world p.records (g.F.Field.map p.field) r (gains_none _) (λ fails ds way taken. taken) (halt.Record (p.records + 1) c.cause.result c.field.result) c.in-Err-Fault.fault _ _ c.stop_for.result says
    (λ i. halt.Record (p.records + 1) (c.cause.ensures i) (c.field.ensures i)) c.stop_for.ensures
