use Rattle.std.proofs.Common.{refl, ◌∙◌, ap, Err}
use Rattle.std.proofs.lemmas.Result.{err_from_is_err_and}
use Rattle.trace_model.specs.Driven.{turns_end}
use Rattle.drive_command.proofs.Composed.{memory_writes}
use Rattle.drive_command.proofs.player.DrivePlayer.end_turns.Goals as goal

pub returns-in_err-line : goal.returns-in_err-line
returns-in_err-line c =
    let p = err_from_is_err_and c.from_residual.result c.from_residual.ensures.1 in
    memory_writes (turns_end c.args.client.now) c.args.self.now c.args.self.now _ _ c.from_residual.result (p.1 ∙ ap Err p.2) refl

pub returns-in_err-extend_from_slice : goal.returns-in_err-extend_from_slice
returns-in_err-extend_from_slice c =
    let p = err_from_is_err_and c.from_residual-in_err-extend_from_slice.result c.from_residual-in_err-extend_from_slice.ensures.1 in
    memory_writes (turns_end c.args.client.now) c.args.self.now c.args.self.now _ _ c.from_residual-in_err-extend_from_slice.result (p.1 ∙ ap Err p.2) c.in_err-extend_from_slice.ensures.items
