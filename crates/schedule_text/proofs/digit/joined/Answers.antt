use Rattle.schedule_text.proofs.Lanes.{joined_pairs}
use Rattle.schedule_text.proofs.digit.joined.Goals as goal

pub returns : goal.returns
returns c = joined_pairs c.args.values 8 c.fits-values.0 c.fits-values.1
