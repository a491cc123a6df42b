use Rattle.record_stream.proofs.Courses.{nothing_plays}
use Rattle.record_stream.proofs.lines.play_row.Goals as goal

pub returns-in_default-clause-plays : goal.returns-in_default-clause-plays
returns-in_default-clause-plays g c = nothing_plays _ _ _ _ g.met.P.Player.history _ _ _
