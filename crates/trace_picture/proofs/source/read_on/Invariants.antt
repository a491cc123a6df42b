use Rattle.std.proofs.Common.{◌≡◌, ◌+◌, ◌≤◌, ℕ, List, length}
use Rattle.std.specs.Io.KnownBytes.{Consumes}
use Rattle.trace_picture.specs.Taking.{IsFront}
use Rattle.trace_audit.specs.declared.source.TheConstants.{MAX_TRACE}
use Rattle.trace_picture.proofs.source.read_on.Given as goal

abbrev pub invariant-loop-count : goal.invariant-loop-count
invariant-loop-count g l = record {
  so_far : (read : List ℕ) × Consumes (g.S.Source.left l.fn.source) (g.S.Source.left l.source) read × IsFront l.front read
      × (length read + l.room ≡ MAX_TRACE) × (l.front.lines ≤ length read);
  later : g.S.Source.faults l.fn.source ≤ g.S.Source.faults l.source;
}

abbrev pub decreases-loop-count : goal.decreases-loop-count
decreases-loop-count g l = l.room
