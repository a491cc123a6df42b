use Rattle.std.proofs.Common.{sym, ◌∙◌, is_some}
use Rattle.values.specs.declared.event.Event.TheVariants as event
use Rattle.trace_model.specs.Driven.{drives_on, flight_of}
use Rattle.drive_command.specs.Course.{field}
use Rattle.drive_command.specs.Turns.{carried}
use Rattle.drive_command.proofs.Composed.{writes_as}
use Rattle.drive_command.proofs.Wanted.{carries_where}
use Rattle.drive_command.proofs.player.DrivePlayer.again.Goals as goal

pub returns-then-is_busy-clause-writes : goal.returns-then-is_busy-clause-writes
returns-then-is_busy-clause-writes c =
    let client = c.args.client.now in
    writes_as (λ d. drives_on field d (event.Again client)) (carried client) c.args.self.now c.carry.new.self _ _ c.carry.result
    (λ d st. carries_where client d (is_some (flight_of d client)) (sym (c.is_busy.ensures d st) ∙ c.if-is_busy.true)) c.carry.ensures.writes
