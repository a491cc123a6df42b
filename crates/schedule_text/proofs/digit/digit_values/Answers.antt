use Rattle.schedule_text.proofs.Lanes.{of_sixteen}
use Rattle.schedule_text.proofs.digit.digit_values.Goals as goal

pub returns : goal.returns
returns c = of_sixteen c.args.digits c.fits-digits.0 c.fits-digits.1
