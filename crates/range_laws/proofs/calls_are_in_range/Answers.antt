use Rattle.range_laws.proofs.Events.{run_in}
use Rattle.range_laws.proofs.calls_are_in_range.Goals as goal

pub returns : goal.returns
returns c link events hashes few fine = (run_in link hashes events few fine).field.history
