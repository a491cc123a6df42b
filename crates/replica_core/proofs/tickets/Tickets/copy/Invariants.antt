use Rattle.std.proofs.Common.{◌≡◌, map}
use Rattle.replica_core.proofs.tickets.Tickets.copy.Given as goal

abbrev pub invariant-loop-ticket : goal.invariant-loop-ticket
invariant-loop-ticket l = l.tickets.items ≡ map (λ y. y.now) l.yielded
