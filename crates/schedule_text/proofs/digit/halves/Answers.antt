use Rattle.schedule_text.proofs.Lanes.{eight_halves}
use Rattle.schedule_text.proofs.digit.halves.Goals as goal

pub returns : goal.returns
returns c = eight_halves c.args.bytes c.fits-bytes.0
