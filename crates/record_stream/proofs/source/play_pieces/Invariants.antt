use Rattle.std.proofs.Common.{◌≡◌, ◌+◌, ◌*◌, ◌≤◌, ℕ, List, length, vec_len}
use Rattle.std.specs.Io.KnownBytes.{Consumes}
use Rattle.record_stream.specs.Ends.{limit}
use Rattle.record_stream.proofs.Endings.{So}
use Rattle.record_stream.proofs.source.play_pieces.Given as goal

abbrev pub invariant-loop-count : goal.invariant-loop-count
invariant-loop-count g l = record {
  so_far : (read : List ℕ) × Consumes (g.S.Source.left l.initial.source) (g.S.Source.left l.source) read
      × So g.P.Player.gains g.P.Player.takes g.P.Player.course g.P.Player.step g.met.P.Player.history l.initial.player read l.pending.items l.player (g.K.Sink.taken l.initial.sink) (g.K.Sink.taken l.sink)
      × (length read + l.room ≡ limit)
      × (g.P.Player.count l.player + 2 * length l.pending.items ≤ 2 * length read);
  live : g.P.Player.live l.player;
  size : vec_len l.buffer ≡ 65536;
  own : g.P.Player.own_faults l.initial.player ≤ g.P.Player.own_faults l.player;
  reads : g.S.Source.faults l.initial.source ≤ g.S.Source.faults l.source;
  writes : g.K.Sink.faults l.initial.sink ≤ g.K.Sink.faults l.sink;
}

abbrev pub decreases-loop-count : goal.decreases-loop-count
decreases-loop-count g l = l.room
