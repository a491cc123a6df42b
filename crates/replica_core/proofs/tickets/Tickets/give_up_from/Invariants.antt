use Rattle.std.proofs.Common.{◌≡◌, ◌++◌, map, Some}
use Rattle.replica_core.specs.Replacing.{given_up}
use Rattle.replica_core.proofs.tickets.Tickets.give_up_from.Given as goal

abbrev pub invariant-loop-ticket : goal.invariant-loop-ticket
invariant-loop-ticket l = l.answers ≡ l.fn.answers ++ given_up (Some (l.fn.index, l.fn.old, l.fn.new)) (map (λ y. y.now) l.yielded)
