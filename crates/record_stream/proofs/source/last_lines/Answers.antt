use Rattle.std.proofs.Common.{ap, ◌∙◌, Err}
use Rattle.std.proofs.lemmas.Result.{err_from_is_err_and}
use Rattle.record_stream.proofs.Endings.{last_cut, last_done, last_stops}
use Rattle.record_stream.proofs.source.last_lines.Goals as goal

pub returns-in_err-play_last-clause-last : goal.returns-in_err-play_last-clause-last
returns-in_err-play_last-clause-last g c =
    let p = err_from_is_err_and c.from_residual.result c.from_residual.ensures.1 in
    last_stops _ _ _ _ g.met.P.Player.history _ _ _ _ _ _ _ c.in_err-play_last.was (p.1 ∙ ap Err p.2) (rw c.requires.none at c.play_last.ensures.plays)

pub returns-in_err-close-clause-last : goal.returns-in_err-close-clause-last
returns-in_err-close-clause-last g c =
    let p = err_from_is_err_and c.from_residual-in_err-close.result c.from_residual-in_err-close.ensures.1 in
    let (text, closes, adds) = rw c.in_err-close.was at c.close.ensures.adds in
    rw (p.1 ∙ ap Err p.2) (last_cut _ _ _ _ g.met.P.Player.history _ _ _ _ text _ _ (rw c.requires.none at c.in_ok-play_last.ensures.plays) closes adds c.close.ensures.gained)

pub returns-clause-last : goal.returns-clause-last
returns-clause-last g c =
    let (text, closes, adds) = c.in_ok-close.ensures.adds in
    last_done _ _ _ _ g.met.P.Player.history g.met.P.Player.nothing g.met.P.Player.unstopped g.met.P.Player.spent _ _ _ _ text _ _ _
    (rw c.requires.none at c.in_ok-play_last.ensures.plays) closes adds c.close.ensures.gained c.in_ok-close.ensures.stays
