-- A change of several voters at once, where a node halts.
use Rattle.std.specs.Prelude.{ℕ, Bool, true, false, List, [], ◌∷◌}
use Rattle.values.specs.declared.entry.Body.TheVariants.{Noop, Members}
use Rattle.group_quorum.specs.Conf.{Conf}
use Rattle.path_machine.specs.Machine.{Machine, Move, Do, Deliver, Rise, Stand, Win, Push, Raise, Send, start, run}
use Rattle.path_machine.specs.Changes.{any_change}

-- the voters 1, 2 and 3
abbrev pub first_three : Conf
first_three = record { margin = 0; voters = 1 ∷ 2 ∷ 3 ∷ [] }

-- every node holds an empty log at the start
abbrev pub all_begin : ℕ → Bool
all_begin v = true

-- 1 leads in term 1, replaces all three voters at once and tells nobody; 3 leads in term 2; 1 leads in term 3 by the
-- votes of both configurations and promises its path by the marks of 4 and 5; 3 leads in term 4 by the votes of the
-- first configuration, and appends to 1 what differs
abbrev pub jump : List Move
jump =
    Do 1 Stand ∷ Deliver 2 0 false ∷ Deliver 1 0 false ∷ Do 1 Win ∷ Do 1 (Push Noop)
    ∷ Do 1 (Send 1) ∷ Deliver 2 0 false ∷ Deliver 3 1 false ∷ Deliver 4 2 false ∷ Deliver 5 3 false
    ∷ Do 1 (Push (Members 0 (4 ∷ 5 ∷ 6 ∷ [])))
    ∷ Do 3 (Rise 1) ∷ Do 3 Stand ∷ Deliver 2 0 false ∷ Deliver 3 0 false ∷ Do 3 Win ∷ Do 3 (Push Noop)
    ∷ Do 1 (Rise 2) ∷ Do 1 Stand ∷ Deliver 2 0 false ∷ Deliver 1 0 false ∷ Deliver 4 1 false ∷ Deliver 1 0 false
    ∷ Deliver 5 2 false ∷ Deliver 1 0 false ∷ Do 1 Win ∷ Do 1 (Push Noop)
    ∷ Do 1 (Send 2) ∷ Deliver 2 0 false ∷ Do 1 (Send 3) ∷ Deliver 4 0 false ∷ Deliver 5 1 false
    ∷ Deliver 1 3 false ∷ Deliver 1 1 false ∷ Deliver 1 0 false ∷ Do 1 (Raise 3)
    ∷ Do 3 (Rise 3) ∷ Do 3 Stand ∷ Deliver 2 0 false ∷ Deliver 3 0 false ∷ Do 3 Win ∷ Do 3 (Push Noop)
    ∷ Do 3 (Send 3) ∷ Deliver 1 0 false ∷ []

-- the machine after these moves, where any configuration may follow any other
abbrev pub after_jump : Machine
after_jump = run first_three any_change (start all_begin) jump
