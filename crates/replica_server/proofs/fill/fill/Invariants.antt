use Rattle.std.proofs.Common.{length, ◌-◌, ◌≡◌, ◌≤◌, take}
use Rattle.std.specs.Io.KnownBytes.{Consumes}
use Rattle.replica_server.proofs.fill.fill.Given as goal

-- so far the first bytes of the buffer were read
abbrev pub invariant-loop-count : goal.invariant-loop-count
invariant-loop-count g l = record {
  within : l.count ≤ length l.buffer;
  size : length l.buffer ≡ length l.initial.buffer;
  got : Consumes (g.S.Source.left l.initial.source) (g.S.Source.left l.source) (take l.count l.buffer);
  later : g.S.Source.faults l.initial.source ≤ g.S.Source.faults l.source;
}

abbrev pub decreases-loop-count : goal.decreases-loop-count
decreases-loop-count g l = length l.initial.buffer - l.count
