use Rattle.record_stream.proofs.Courses.{nothing_plays}
use Rattle.record_stream.proofs.PlainLines.{plain_line}
use Rattle.record_stream.proofs.lines.play_line.Goals as goal

pub returns-in-Ok-Partial-clause-plays : goal.returns-in-Ok-Partial-clause-plays
returns-in-Ok-Partial-clause-plays g c =
    let cuts = rw (c.in-Ok-Partial.field-0-is, c.new.ensures.piece, c.new.ensures.from) at c.in-Ok-Partial.ensures.cuts in
    rw (plain_line c.args.line.now c.body_of-body.result.now cuts.0 c.body_of-body.ensures) c.play_cut.ensures.plays

pub returns-in-Err-clause-plays : goal.returns-in-Err-clause-plays
returns-in-Err-clause-plays g c = nothing_plays _ _ _ _ g.met.P.Player.history _ _ _
