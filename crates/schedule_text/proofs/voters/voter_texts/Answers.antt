use Rattle.schedule_text.proofs.Begins.{behind_three}
use Rattle.schedule_text.proofs.voters.voter_texts.Goals as goal

pub returns : goal.returns
returns c = behind_three c.args.fields.now c.min.result c.min.ensures
