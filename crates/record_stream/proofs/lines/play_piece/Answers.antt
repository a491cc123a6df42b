use Rattle.record_stream.proofs.Courses.{cuts_all}
use Rattle.record_stream.proofs.lines.play_piece.Goals as goal

pub returns-in_default-clause-plays : goal.returns-in_default-clause-plays
returns-in_default-clause-plays g c =
    let (written, goes, taken) = c.in_ok-start.ensures.plays in
    (written, cuts_all _ _ _ _ _ _ _ written goes, taken)
