use Rattle.std.proofs.Common.{ℕ, ◌≡◌, ◌-◌, ◌≤◌, ◌++◌, List}
use Rattle.enclave_host.specs.Fields.{Gains}
use Rattle.group_world.specs.Given.{Given, contents_in}
use Rattle.group_world.specs.Playing.{CanPlay}
use Rattle.group_world.proofs.Pieces.{Delivered}
use Rattle.group_world.proofs.player.GroupPlayer.settle.Given as goal

-- the deliveries so far
abbrev pub invariant-loop : goal.invariant-loop
invariant-loop g l = record {
  so_far : (given : List Given) × Gains (g.F.Field.answers l.initial.self.field) (g.F.Field.answers l.self.field) (contents_in given)
      × (text : List ℕ) × (l.lines.items ≡ l.initial.lines.items ++ text)
      × Delivered l.fn.most l.initial.self.world l.self.world (g.F.Field.map l.initial.self.field) (g.F.Field.map l.self.field) given text (l.fn.most - l.counter);
  can : CanPlay l.self.world (g.F.Field.map l.self.field);
  low : l.counter ≤ l.fn.most;
  records : l.self.records ≡ l.initial.self.records;
  faults : g.F.Field.faults l.initial.self.field ≤ g.F.Field.faults l.self.field;
}
