use Rattle.path_machine.proofs.Changes.{single_change_overlaps}
use Rattle.path_machine.proofs.single_changes_overlap.Goals as goal

pub returns : goal.returns
returns c old new near f g met met' = single_change_overlaps old new near f g met met'
