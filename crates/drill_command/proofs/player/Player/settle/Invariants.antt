use Rattle.std.proofs.Common.{◌-◌, ◌≤◌}
use Rattle.drill_command.specs.Drilled.{IsLive}
use Rattle.drill_command.proofs.Steps.{Left}
use Rattle.drill_command.proofs.player.Player.settle.Given as goal

-- the deliveries so far
abbrev pub invariant-loop : goal.invariant-loop
invariant-loop l = record {
  left : Left l.initial.self l.self l.fn.most (l.fn.most - l.counter);
  live : IsLive l.self;
  low : l.counter ≤ l.fn.most;
}
