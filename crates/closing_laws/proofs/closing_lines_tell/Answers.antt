use Rattle.group_model.specs.Run.{run}
use Rattle.closing_laws.proofs.Events.{run_keeps}
use Rattle.closing_laws.proofs.Closing.{closing}
use Rattle.closing_laws.proofs.closing_lines_tell.Goals as goal

pub returns : goal.returns
returns c link events = closing (run link events) (run_keeps link events)
