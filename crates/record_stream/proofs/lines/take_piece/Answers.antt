use Rattle.std.proofs.Common.{ap, ◌∙◌, ◌+◌, [], Err}
use Rattle.std.proofs.lemmas.List.{take_rest}
use Rattle.std.proofs.lemmas.Result.{err_from_is_err_and}
use Rattle.record_stream.proofs.Courses.{advances_none, grows_none, nothing_plays, plays_then, stops_in}
use Rattle.record_stream.proofs.Wholes.{begun_more, begun_none, begun_part, begun_records, found_feed}
use Rattle.record_stream.proofs.lines.take_piece.Goals as goal

pub returns-in_err-end_line-in-Some-clause-plays : goal.returns-in_err-end_line-in-Some-clause-plays
returns-in_err-end_line-in-Some-clause-plays g c =
    let p = err_from_is_err_and c.from_residual.result c.from_residual.ensures.1 in
    rw (begun_records c.args.pending.now.items c.args.piece.now c.in-Some.end (found_feed _ _ _ c.in-Some.ensures))
    (stops_in _ _ _ _ _ _ _ _ _ _ _ _ _ c.in_err-end_line-in-Some.was (p.1 ∙ ap Err p.2) c.end_line.ensures.plays)

pub returns-in_ok-end_line-in-Some-clause-plays : goal.returns-in_ok-end_line-in-Some-clause-plays
returns-in_ok-end_line-in-Some-clause-plays g c =
    let (written, goes, taken) = c.in_ok-end_line-in-Some.ensures.plays in
    rw (begun_records c.args.pending.now.items c.args.piece.now c.in-Some.end (found_feed _ _ _ c.in-Some.ensures))
    (plays_then _ _ _ _ g.met.P.Player.history _ _ _ _ _ written _ _ _ _ goes taken (rw (take_rest c.args.piece.now (c.in-Some.end + 1)) at c.play_piece-in-Some.ensures.plays))

pub returns-in_ok-end_line-in-Some-clause-rest : goal.returns-in_ok-end_line-in-Some-clause-rest
returns-in_ok-end_line-in-Some-clause-rest g c =
    rw (begun_part c.args.pending.now.items c.args.piece.now c.in-Some.end (found_feed _ _ _ c.in-Some.ensures)) (rw (take_rest c.args.piece.now (c.in-Some.end + 1)) at c.play_piece-in-Some.ensures.rest)

pub returns-in-Ok-clause-plays : goal.returns-in-Ok-clause-plays
returns-in-Ok-clause-plays g c =
    rw (begun_none c.args.pending.now.items c.args.piece.now (rw c.in-None.is at c.feed_from.ensures)) ([], advances_none _ _ _ _ g.met.P.Player.history _, grows_none _)

pub returns-in-Ok-clause-rest : goal.returns-in-Ok-clause-rest
returns-in-Ok-clause-rest g c = rw (begun_more c.args.pending.now.items c.args.piece.now (rw c.in-None.is at c.feed_from.ensures)) c.in-Ok.ensures.items

pub returns-in-Err-clause-plays : goal.returns-in-Err-clause-plays
returns-in-Err-clause-plays g c = nothing_plays _ _ _ _ g.met.P.Player.history _ _ _
