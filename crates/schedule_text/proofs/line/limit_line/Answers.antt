use Rattle.std.proofs.Common.{refl}
use Rattle.schedule_model.specs.Lines.{line_text}
use Rattle.schedule_text.proofs.line.limit_line.Goals as goal

pub returns : goal.returns
unfolding line_text
returns c = refl
