use Rattle.std.proofs.Common.{◌≡◌, ◌+◌, ◌-◌, ◌*◌, ◌≤◌, length}
use Rattle.record_stream.proofs.Wholes.{PlayedTo}
use Rattle.record_stream.proofs.lines.play_whole.Given as goal

-- the lines before the place that the walk has come to were played
abbrev pub invariant-loop-cut : goal.invariant-loop-cut
invariant-loop-cut g l = record {
  piece : l.cutter.piece.now ≡ l.piece;
  played : PlayedTo g.P.Player.gains g.P.Player.takes g.P.Player.course g.P.Player.step l.initial.player l.player l.initial.lines.items l.lines.items l.piece l.cutter.from;
  counted : g.P.Player.count l.player ≤ g.P.Player.count l.initial.player + 2 * l.cutter.from;
  live : g.P.Player.live l.player;
  own_later : g.P.Player.own_faults l.initial.player ≤ g.P.Player.own_faults l.player;
}

abbrev pub decreases-loop-cut : goal.decreases-loop-cut
decreases-loop-cut g l = length l.piece - l.cutter.from
