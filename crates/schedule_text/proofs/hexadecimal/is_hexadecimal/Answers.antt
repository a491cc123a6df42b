use Rattle.schedule_text.proofs.Requests.{tells}
use Rattle.schedule_text.proofs.hexadecimal.is_hexadecimal.Goals as goal

pub returns-then-text-eq0 : goal.returns-then-text-eq0
returns-then-text-eq0 c = tells c.args.text.now c.all_digits.result c.if-text-eq0.true c.all_digits.ensures
