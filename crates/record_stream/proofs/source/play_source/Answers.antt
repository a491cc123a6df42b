use Rattle.record_stream.proofs.Told.{told_plays}
use Rattle.record_stream.proofs.source.play_source.Goals as goal

pub returns-clause-ends : goal.returns-clause-ends
returns-clause-ends g c =
    let (read, consumed, ends) = c.play_pieces.ensures.ends in
    told_plays g.P.Player.gains g.P.Player.takes g.P.Player.course g.P.Player.step c.args.player.now c.play_pieces.new.player read _ _ (g.K.Sink.taken c.args.sink.now) (g.K.Sink.taken c.play_pieces.new.sink) c.play_pieces.result consumed ends
