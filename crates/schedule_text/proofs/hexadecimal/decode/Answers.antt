use Rattle.std.proofs.Common.{sym, ◌∙◌}
use Rattle.schedule_text.proofs.Hexadecimals.{are_hexadecimal, are_not_hexadecimal}
use Rattle.schedule_text.proofs.hexadecimal.decode.Goals as goal

pub returns-in-Err-clause-err : goal.returns-in-Err-clause-err
returns-in-Err-clause-err c = are_hexadecimal c.args.text.now c.if-text-ne0.false (sym c.all_digits.ensures ∙ c.if-all_digits.true)

pub returns-in-Err-2-clause-ok : goal.returns-in-Err-2-clause-ok
returns-in-Err-2-clause-ok c = are_not_hexadecimal c.args.text.now c.if-text-ne0.false (sym c.all_digits.ensures ∙ c.if-all_digits.false)
