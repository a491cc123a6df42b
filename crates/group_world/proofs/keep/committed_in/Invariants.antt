use Rattle.std.proofs.Common.{ℕ, ◌≡◌, drop, fold, max}
use Rattle.values.specs.declared.entry.LogEntry.{LogEntry}
use Rattle.group_model.specs.Group.{committed_in}
use Rattle.group_world.proofs.keep.committed_in.Given as goal

abbrev pub invariant-loop-index : goal.invariant-loop-index
invariant-loop-index l = fold (λ (n : ℕ) (c : ℕ × LogEntry). max n c.0) l.greatest (drop l.index-index l.index-items) ≡ committed_in l.batch
