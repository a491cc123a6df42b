use Rattle.path_machine.specs.Changes.{is_single_change}
use Rattle.path_laws.proofs.laws_by_single_changes.Goals as goal

pub returns : goal.returns
returns c first begins moves = c.runs_keep_the_laws.ensures is_single_change c.single_changes_overlap.ensures first begins moves
