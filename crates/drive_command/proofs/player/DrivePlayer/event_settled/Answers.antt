use Rattle.std.proofs.Common.{refl, ◌∙◌, ap, Err}
use Rattle.std.proofs.lemmas.Result.{err_from_is_err_and}
use Rattle.values.specs.declared.event.Event.TheVariants as event
use Rattle.trace_model.specs.Driven.{drives, drives_settled}
use Rattle.drive_command.specs.Course.{field}
use Rattle.drive_command.proofs.Composed.{first_stops, then_writes}
use Rattle.drive_command.proofs.Tame as tame
use Rattle.drive_command.proofs.player.DrivePlayer.event_settled.Goals as goal

pub returns-in_err-event-clause-writes : goal.returns-in_err-event-clause-writes
returns-in_err-event-clause-writes c =
    let p = err_from_is_err_and c.from_residual.result c.from_residual.ensures.1 in
    first_stops (λ d. drives_settled field d c.args.event.now) (λ d. drives field d c.args.event.now) (λ d e. drives field e (event.Settle 1024)) (λ d. refl) (tame.tame_drives c.args.event.now) (λ d. tame.tame_drives (event.Settle 1024)) c.args.self.now c.event.new.self _ _ _ c.event.result c.from_residual.result c.in_err-event.was (p.1 ∙ ap Err p.2) c.event.ensures.writes

pub returns-clause-writes : goal.returns-clause-writes
returns-clause-writes c =
    let (text, grown, on) = c.in_ok-event.ensures.writes in
    then_writes (λ d. drives_settled field d c.args.event.now) (λ d. drives field d c.args.event.now) (λ d e. drives field e (event.Settle 1024)) (λ d. refl) (tame.tame_drives c.args.event.now) (λ d. tame.tame_drives (event.Settle 1024)) c.args.self.now c.event.new.self (λ e. drives field e (event.Settle 1024)) (λ d e s t. refl) text on _ _ _ _ c.settle.result grown c.settle.ensures.writes
