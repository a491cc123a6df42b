use Rattle.std.proofs.Common.{◌≡◌, true, false}
use Rattle.path_machine.specs.Changes.{no_change}
use Rattle.path_laws.proofs.laws_in_one_configuration.Goals as goal

pub returns : goal.returns
returns c first begins moves = c.runs_keep_the_laws.ensures no_change (λ old new is. absurd (let apart : false ≡ true = is in cc)) first begins moves
