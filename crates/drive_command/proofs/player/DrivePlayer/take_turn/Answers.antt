use Rattle.std.proofs.Common.{refl, ◌∙◌, ap, Err}
use Rattle.std.proofs.lemmas.Result.{err_from_is_err_and}
use Rattle.trace_model.specs.Driven.{asks_target, takes_turn, wakes_target}
use Rattle.client_driver.specs.Turns.{turn_of}
use Rattle.drive_command.specs.Course.{field}
use Rattle.drive_command.proofs.Composed.{first_stops, then_writes}
use Rattle.drive_command.proofs.Tame as tame
use Rattle.drive_command.proofs.player.DrivePlayer.take_turn.Goals as goal

pub returns-in_err-wake-clause-writes : goal.returns-in_err-wake-clause-writes
returns-in_err-wake-clause-writes c =
    let p = err_from_is_err_and c.from_residual.result c.from_residual.ensures.1 in
    first_stops (takes_turn field c.args.client.now (turn_of c.args.turn)) (wakes_target field (turn_of c.args.turn)) (λ d. asks_target field c.args.client.now (turn_of c.args.turn)) (λ d. refl) (tame.tame_wakes (turn_of c.args.turn)) (λ d. tame.tame_asks c.args.client.now (turn_of c.args.turn)) c.args.self.now c.wake.new.self _ _ _ c.wake.result c.from_residual.result c.in_err-wake.was (p.1 ∙ ap Err p.2) c.wake.ensures.writes

pub returns-clause-writes : goal.returns-clause-writes
returns-clause-writes c =
    let (text, grown, on) = c.in_ok-wake.ensures.writes in
    then_writes (takes_turn field c.args.client.now (turn_of c.args.turn)) (wakes_target field (turn_of c.args.turn)) (λ d. asks_target field c.args.client.now (turn_of c.args.turn)) (λ d. refl) (tame.tame_wakes (turn_of c.args.turn)) (λ d. tame.tame_asks c.args.client.now (turn_of c.args.turn)) c.args.self.now c.wake.new.self (asks_target field c.args.client.now (turn_of c.args.turn)) (λ d e s t. refl) text on _ _ _ _ c.ask.result grown c.ask.ensures.writes
