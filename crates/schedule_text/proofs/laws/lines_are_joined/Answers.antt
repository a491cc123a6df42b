use Rattle.schedule_text.proofs.Joins.{line_of_fields}
use Rattle.schedule_text.proofs.laws.lines_are_joined.Goals as goal

pub returns : goal.returns
returns c field fields = line_of_fields field fields
