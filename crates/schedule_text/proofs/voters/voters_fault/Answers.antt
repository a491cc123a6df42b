use Rattle.std.proofs.Common.{arith, sym, ap, ◌∙◌, Some}
use Rattle.schedule_text.proofs.BeginIds.{no_fault, this_fault}
use Rattle.schedule_text.proofs.voters.voters_fault.Goals as goal

pub returns-in-Ok-clause-fault : goal.returns-in-Ok-clause-fault
returns-in-Ok-clause-fault c all size holds = no_fault c.args.ids.now all c.args.count c.args.margin _ (omega arith) size holds (sym c.in-Ok.is ∙ c.new.ensures.made)

pub returns-in-Err-clause-fault : goal.returns-in-Err-clause-fault
returns-in-Err-clause-fault c all size holds = ap Some c.cause_of.ensures ∙ this_fault c.args.ids.now all c.args.count c.args.margin _ (omega arith) size holds (sym c.in-Err.is ∙ c.new.ensures.made)
