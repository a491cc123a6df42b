use Rattle.values.specs.declared.event.Event.TheVariants as event
use Rattle.client_driver.specs.Turns.{turn_of}
use Rattle.trace_model.specs.Driven.{drives_settled, wakes_target}
use Rattle.drive_command.specs.Course.{field}
use Rattle.drive_command.proofs.Composed.{writes_as}
use Rattle.drive_command.proofs.Turning.{wakes_so}
use Rattle.drive_command.proofs.player.DrivePlayer.wake.Goals as goal

pub returns-clause-writes : goal.returns-clause-writes
returns-clause-writes c =
    let t = turn_of c.args.turn in
    writes_as (wakes_target field t) (λ d. drives_settled field d (event.Tick t.target)) c.args.self.now _ _ _ _ (λ d st. wakes_so t c.if-not-turn.false d) c.event_settled.ensures.writes
