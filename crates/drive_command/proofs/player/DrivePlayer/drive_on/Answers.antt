use Rattle.std.proofs.Common.{refl, sym, ap, subst, ◌≡◌, true}
use Rattle.values.specs.declared.event.Event.{Event}
use Rattle.values.specs.declared.event.Event.TheVariants as event
use Rattle.record_cutting.specs.Lines.{record_of}
use Rattle.trace_model.specs.Driven.{drives, drives_on}
use Rattle.group_world.proofs.Recorded.{plays_driven, reads_playable}
use Rattle.drive_command.specs.Course.{field}
use Rattle.drive_command.specs.Turns.{begins_driver, wants_carried}
use Rattle.drive_command.proofs.Composed.{writes_as}
use Rattle.drive_command.proofs.Wanted.{drives_other}
use Rattle.drive_command.proofs.player.DrivePlayer.drive_on.Goals as goal

pub begin-requires-clause-playable : goal.begin-requires-clause-playable
begin-requires-clause-playable c =
    let e = c.args.event.now in
    let begun = c.args.self.now.group.world.begun in
    plays_driven begun e (reads_playable true (record_of c.args.fields.now) e begun c.requires.says) (λ n is. cc) (λ client is. cc)

pub event-requires : goal.event-requires
event-requires c =
    let e = c.args.event.now in
    let begun = c.args.self.now.group.world.begun in
    record {
      live = c.requires.live;
      playable = plays_driven begun e (reads_playable true (record_of c.args.fields.now) e begun c.requires.says) c.in_default.not-Settle c.in_default.not-Again;
    }

pub returns-in-Want-clause-writes : goal.returns-in-Want-clause-writes
returns-in-Want-clause-writes c =
    let e = c.args.event.now in
    let client = c.in-Want.client in
    writes_as (λ d. drives_on field d e) (wants_carried e client) c.args.self.now c.want.new.self _ _ c.want.result
    (λ d st. subst (λ (x : Event). drives_on field d x ≡ wants_carried x client d) (sym c.in-Want.is) refl) c.want.ensures.writes

pub returns-in-Again-clause-writes : goal.returns-in-Again-clause-writes
returns-in-Again-clause-writes c =
    writes_as (λ d. drives_on field d c.args.event.now) (λ d. drives_on field d (event.Again c.in-Again.client)) c.args.self.now c.again.new.self _ _ c.again.result (λ d st. ap (drives_on field d) c.in-Again.is) c.again.ensures.writes

pub returns-in-Begin-clause-writes : goal.returns-in-Begin-clause-writes
returns-in-Begin-clause-writes c =
    let e = c.args.event.now in
    writes_as (λ d. drives_on field d e) (begins_driver e) c.args.self.now c.begin.new.self _ _ c.begin.result
    (λ d st. subst (λ (x : Event). drives_on field d x ≡ begins_driver x d) (sym c.in-Begin.is) refl) c.begin.ensures.writes

pub returns-in-Settle-clause-writes : goal.returns-in-Settle-clause-writes
returns-in-Settle-clause-writes c =
    writes_as (λ d. drives_on field d c.args.event.now) (λ d. drives field d (event.Settle c.in-Settle.most)) c.args.self.now c.settle.new.self _ _ c.settle.result (λ d st. ap (drives_on field d) c.in-Settle.is) c.settle.ensures.writes

pub returns-in_default : goal.returns-in_default
returns-in_default c =
    let e = c.args.event.now in
    record {
      writes = writes_as (λ d. drives_on field d e) (λ d. drives field d e) c.args.self.now c.event.new.self _ _ c.event.result (λ d st. drives_other e d c.in_default.not-Want c.in_default.not-Again c.in_default.not-Begin) c.event.ensures.writes;
      live = c.event.ensures.live;
      records = c.event.ensures.records;
    }
