use Rattle.std.proofs.Common.{arith, refl, ap, ◌∙◌, ◌+◌, ◌-◌, Err, drop}
use Rattle.std.proofs.lemmas.List.{length-drop, length-take-le}
use Rattle.std.proofs.lemmas.Result.{err_from_is_err_and}
use Rattle.record_stream.proofs.PlainLines.{plain_lacks}
use Rattle.record_stream.proofs.Wholes.{found_feed, lacks_after, plain_feed, plain_says, played_all, played_cut, played_line, played_none, played_rest, played_stop}
use Rattle.record_stream.proofs.lines.play_whole.Goals as goal

pub loop-cut-init : goal.loop-cut-init
loop-cut-init g c = record {
  piece = c.new-cutter.ensures.piece;
  played = rw c.new-cutter.ensures.from (played_none _ _ _ _ g.met.P.Player.history _ _ c.args.piece.now);
  counted = omega arith;
  live = c.requires.live;
  own_later = omega arith;
}

pub returns-in_default-clause-plays : goal.returns-in_default-clause-plays
returns-in_default-clause-plays g c = played_cut _ _ _ _ g.met.P.Player.history _ _ _ _ c.args.piece.now c.loop-cut.cutter.from c.loop-cut.invariant.played

pub loop-cut-preserved-in-Continue-1 : goal.loop-cut-preserved-in-Continue-1
loop-cut-preserved-in-Continue-1 g c =
    let inv = c.loop-cut.invariant in
    let piece = c.args.piece.now in
    let start = c.loop-cut.cutter.from in
    let (line, next, fields) = rw (inv.piece, c.in-Whole.is) at c.in-Ok.ensures.cuts in
    record {
      piece = ap (λ p. p.now) c.in-Ok.ensures.same ∙ inv.piece;
      played =
          rw next
          (played_line _ _ _ _ g.met.P.Player.history _ _ _ _ piece start inv.played c.in-Whole.end (plain_feed piece start c.in-Whole.end line) _ (plain_says piece start c.in-Whole.end line) _ _ c.in_ok-play_cut-in-Whole.ensures.plays);
      counted = omega (arith, inv.counted, c.in_ok-play_cut-in-Whole.ensures.counted, next, line.low);
      live = c.in_ok-play_cut-in-Whole.ensures.live;
      own_later = omega (arith, inv.own_later, c.play_cut.ensures.own_cause.later);
    }

pub returns-in_err-play_cut-in-Whole-clause-plays : goal.returns-in_err-play_cut-in-Whole-clause-plays
returns-in_err-play_cut-in-Whole-clause-plays g c =
    let inv = c.loop-cut.invariant in
    let piece = c.args.piece.now in
    let start = c.loop-cut.cutter.from in
    let p = err_from_is_err_and c.from_residual.result c.from_residual.ensures.1 in
    let (line, next, fields) = rw (inv.piece, c.in-Whole.is) at c.in-Ok.ensures.cuts in
    played_stop _ _ _ _ g.met.P.Player.history _ _ _ _ piece start inv.played c.in-Whole.end (plain_feed piece start c.in-Whole.end line) _ (plain_says piece start c.in-Whole.end line) _ _ _ _ _
    c.in_err-play_cut-in-Whole.was (p.1 ∙ ap Err p.2) c.play_cut.ensures.plays

pub returns-in-Partial-clause-plays : goal.returns-in-Partial-clause-plays
returns-in-Partial-clause-plays g c =
    let inv = c.loop-cut.invariant in
    let piece = c.args.piece.now in
    let start = c.loop-cut.cutter.from in
    let cuts = rw (inv.piece, c.in-Partial.is) at c.in-Ok.ensures.cuts in
    played_all _ _ _ _ g.met.P.Player.history _ _ _ _ piece start inv.played (plain_lacks (drop start piece) cuts.0)

pub returns-in-Partial-clause-rest : goal.returns-in-Partial-clause-rest
returns-in-Partial-clause-rest g c =
    let inv = c.loop-cut.invariant in
    let piece = c.args.piece.now in
    let start = c.loop-cut.cutter.from in
    let cuts = rw (inv.piece, c.in-Partial.is) at c.in-Ok.ensures.cuts in
    played_rest _ _ _ _ g.met.P.Player.history _ _ _ _ piece start inv.played (plain_lacks (drop start piece) cuts.0)

pub returns-in_default-feed_from-clause-plays : goal.returns-in_default-feed_from-clause-plays
returns-in_default-feed_from-clause-plays g c =
    let piece = c.args.piece.now in
    let start = c.loop-cut.cutter.from in
    played_all _ _ _ _ g.met.P.Player.history _ _ _ _ piece start c.loop-cut.invariant.played (lacks_after piece start c.in_default-feed_from.ensures)

pub returns-in_default-feed_from-clause-rest : goal.returns-in_default-feed_from-clause-rest
returns-in_default-feed_from-clause-rest g c =
    let piece = c.args.piece.now in
    let start = c.loop-cut.cutter.from in
    played_rest _ _ _ _ g.met.P.Player.history _ _ _ _ piece start c.loop-cut.invariant.played (lacks_after piece start c.in_default-feed_from.ensures)

pub returns-in_err-play_line-in-Marked-clause-plays : goal.returns-in_err-play_line-in-Marked-clause-plays
returns-in_err-play_line-in-Marked-clause-plays g c =
    let inv = c.loop-cut.invariant in
    let piece = c.args.piece.now in
    let start = c.loop-cut.cutter.from in
    let p = err_from_is_err_and c.from_residual-in_err-play_line-in-Marked.result c.from_residual-in_err-play_line-in-Marked.ensures.1 in
    played_stop _ _ _ _ g.met.P.Player.history _ _ _ _ piece start inv.played c.in-Some.end (found_feed piece start c.in-Some.end c.in-Some.ensures) _ refl _ _ _ _ _
    c.in_err-play_line-in-Marked.was (p.1 ∙ ap Err p.2) c.play_line.ensures.plays

pub loop-cut-preserved : goal.loop-cut-preserved
loop-cut-preserved g c =
    let inv = c.loop-cut.invariant in
    let piece = c.args.piece.now in
    let start = c.loop-cut.cutter.from in
    let feed = found_feed piece start c.in-Some.end c.in-Some.ensures in
    let size = length-take-le ((c.in-Some.end + 1) - start) (drop start piece) (let high = feed.high in omega (arith, length-drop start piece)) in
    record {
      piece = c.new-cutter-in-Marked.ensures.piece;
      played = rw c.new-cutter-in-Marked.ensures.from (played_line _ _ _ _ g.met.P.Player.history _ _ _ _ piece start inv.played c.in-Some.end feed _ refl _ _ c.in_ok-play_line-in-Marked.ensures.plays);
      counted = omega (arith, inv.counted, c.in_ok-play_line-in-Marked.ensures.counted, feed.low, size, c.new-cutter-in-Marked.ensures.from);
      live = c.in_ok-play_line-in-Marked.ensures.live;
      own_later = omega (arith, inv.own_later, c.play_line.ensures.own_cause.later);
    }
