use Rattle.std.proofs.Common.{arith, ap, sym, ◌∙◌, Err}
use Rattle.schedule_text.proofs.Sized.{another_digit, another_size}
use Rattle.schedule_text.proofs.field.sized_of.Goals as goal
use Rattle.schedule_text.proofs.field.sized_of.Goals.{else-text-eq0-via-then-text-eq0+then-text+else-decode_into, else-text-eq0-via-then-text-eq0+else-text, else-text-eq0-via-else-text-eq0}

pub returns-else-text-eq0 : goal.returns-else-text-eq0
returns-else-text-eq0 g c =
    let text = c.args.text.now in
    elim c.else-text-eq0.branch [
      | else-text-eq0-via-then-text-eq0+then-text+else-decode_into w ↦
          ap Err c.new.ensures ∙ sym (another_digit text c.args.k g.row.N (omega (arith, w.if-text-eq0.true, w.if-text.true)) w.if-decode_into.ensures)
      | else-text-eq0-via-then-text-eq0+else-text w ↦ ap Err c.new.ensures ∙ sym (another_size text c.args.k g.row.N (λ size. w.if-text.false (omega (arith, size))))
      | else-text-eq0-via-else-text-eq0 w ↦ ap Err c.new.ensures ∙ sym (another_size text c.args.k g.row.N (λ size. w.if-text-eq0.false (omega (arith, size))))
    ]
