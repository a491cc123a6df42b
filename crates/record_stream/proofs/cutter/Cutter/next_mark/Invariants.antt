use Rattle.std.proofs.Common.{◌≡◌, ◌-◌, length}
use Rattle.record_stream.proofs.cutter.Cutter.next_mark.Given as goal

-- the bytes that were looked at mean nothing
abbrev pub invariant-loop-self : goal.invariant-loop-self
invariant-loop-self l = record {
  piece : l.self.piece ≡ l.initial.self.piece;
  from : l.self.from ≡ l.initial.self.from;
}

abbrev pub decreases-loop-self : goal.decreases-loop-self
decreases-loop-self l = length l.initial.self.piece.now - l.self.base
