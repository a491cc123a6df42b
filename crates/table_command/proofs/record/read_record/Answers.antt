use Rattle.std.proofs.Common.{sym, ◌∙◌, ap, Err}
use Rattle.std.proofs.lemmas.Result.{err_from_is_err_and}
use Rattle.schedule_text.specs.declared.fault.Unread.TheVariants as unread
use Rattle.table_command.proofs.Asked.{no_number}
use Rattle.table_command.proofs.record.read_record.Goals as goal

pub returns-in_err-number : goal.returns-in_err-number
returns-in_err-number c =
    let p = err_from_is_err_and c.from_residual-in_err-number.result c.from_residual-in_err-number.ensures.1 in
    rw (p.1 ∙ ap Err p.2) (no_number c.args.fields.now _ _ c.in_ok-client.client c.in_err-number.field-0.0 c.in-len3.len_at_least c.in-len3.len_below (sym c.in_ok-client.ensures) (sym c.in_err-number.ensures))
