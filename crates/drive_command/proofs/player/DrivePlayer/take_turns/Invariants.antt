use Rattle.std.proofs.Common.{ℕ, List, ◌≡◌, ◌++◌, ◌-◌, ◌≤◌}
use Rattle.trace_model.specs.Driver.{max_turns}
use Rattle.drive_command.specs.Turns.{turns}
use Rattle.drive_command.specs.Standing.{IsLive}
use Rattle.drive_command.proofs.Loops.{Reached}
use Rattle.drive_command.proofs.player.DrivePlayer.take_turns.Given as goal

-- the turns so far
abbrev pub invariant-loop : goal.invariant-loop
invariant-loop l = record {
  so_far : (text : List ℕ) × (l.lines.items ≡ l.initial.lines.items ++ text) × Reached (turns max_turns l.client) (turns (max_turns - l.counter) l.client) l.initial.self l.self text;
  live : IsLive l.self;
  low : l.counter ≤ 16;
  records : l.self.group.records ≡ l.initial.self.group.records;
}
