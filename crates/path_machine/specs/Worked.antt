-- A run by single changes: it elects twice, admits a learner that took a table, and removes the first voter.
use Rattle.std.specs.Prelude.{ℕ, Bool, true, false, ◌==◌, List, [], ◌∷◌}
use Rattle.values.specs.declared.entry.Body.TheVariants.{Noop, Members}
use Rattle.group_quorum.specs.Conf.{Conf}
use Rattle.path_machine.specs.Machine.{Machine, Move, Do, Deliver, Stand, Win, Push, Note, Raise, Commit, Send, Hand, start, run}
use Rattle.path_machine.specs.Changes.{is_single_change}

-- the voter 1
abbrev pub first_one : Conf
first_one = record { margin = 0; voters = 1 ∷ [] }

-- it alone begins with a log
abbrev pub one_begins : ℕ → Bool
one_begins v = v == 1

-- 1 leads in term 1 and commits its Noop; 2 takes the table; 1 admits 2, which accepts, and commits that; 2 leads in
-- term 2 by both votes, and removes 1
abbrev pub succession : List Move
succession =
    Do 1 Stand ∷ Do 1 Win ∷ Do 1 (Push Noop) ∷ Do 1 (Note (λ i. true)) ∷ Do 1 (Raise 1) ∷ Do 1 (Commit 1)
    ∷ Do 1 (Hand 1) ∷ Deliver 2 0 false
    ∷ Do 1 (Push (Members 0 (1 ∷ 2 ∷ []))) ∷ Do 1 (Send 2) ∷ Deliver 2 0 false ∷ Deliver 1 0 false
    ∷ Do 1 (Raise 2) ∷ Do 1 (Commit 2) ∷ Do 1 (Send 2) ∷ Deliver 2 0 false
    ∷ Do 2 Stand ∷ Deliver 1 0 false ∷ Deliver 2 0 false ∷ Do 2 Win ∷ Do 2 (Push Noop) ∷ Do 2 (Push (Members 0 (2 ∷ []))) ∷ []

-- the machine after these moves
abbrev pub after_succession : Machine
after_succession = run first_one is_single_change (start one_begins) succession
