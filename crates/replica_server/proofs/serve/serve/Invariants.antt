use Rattle.std.proofs.Common.{◌≡◌, ◌≤◌, ◌-◌, ◌*◌, ℕ, List}
use Rattle.std.specs.Io.KnownBytes.{Appends, Consumes}
use Rattle.values.specs.declared.limits.TheConstants.{MAX_FRAMES}
use Rattle.replica_server.specs.Turning.{SoFar}
use Rattle.replica_server.proofs.serve.serve.Given as goal

-- what was read so far are whole frames, and all were answered
abbrev pub invariant-loop-server : goal.invariant-loop-server
invariant-loop-server g l = record {
  so_far : (read : List ℕ) × Consumes (g.S.Source.left l.initial.source) (g.S.Source.left l.source) read
      × (written : List ℕ) × Appends (g.K.Sink.taken l.initial.sink) (g.K.Sink.taken l.sink) written
      × SoFar (g.T.Tags.tagging l.server.tags) read written (record { at = l.server.at; number = l.server.number; enclave = l.server.enclave });
  same : g.T.Tags.tagging l.server.tags ≡ g.T.Tags.tagging l.initial.server.tags;
  stands : g.T.Tags.stands l.server.tags l.server.number l.server.number;
  offset : l.server.at ≤ l.server.number * 1048612;
  few : l.server.number ≤ MAX_FRAMES;
  reads : g.S.Source.faults l.initial.source ≤ g.S.Source.faults l.source;
  writes : g.K.Sink.faults l.initial.sink ≤ g.K.Sink.faults l.sink;
}

abbrev pub decreases-loop-server : goal.decreases-loop-server
decreases-loop-server g l = MAX_FRAMES - l.server.number
