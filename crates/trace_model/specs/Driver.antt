-- How a driver carries a client's want to its report: whom the client asks, and whom it wakes first.
use Rattle.std.specs.Prelude.{ℕ, ◌-◌, ◌==◌, nat_lt, Bool, true, false, if◌then◌else◌, List, find, slice_get, Option, Some, None, unwrap_or}
use Rattle.group_quorum.specs.Voters.{is_in}

-- the replica to ask next, whether it is woken before, and the turns that are left for the want
pub record Driver : Type 0 where
  pub target : ℕ
  pub wakes : Bool
  pub left : ℕ

-- how many turns a want has
abbrev pub max_turns : ℕ
max_turns = 16

abbrev pub new_driver : ℕ → Driver
new_driver first = record { target = first; wakes = true; left = 0 }

-- a want begins; the target and the waking stay
abbrev pub begin_want : Driver → Driver
begin_want d = record d { left = max_turns }

-- whom to ask, and whether to wake it first
pub record Turn : Type 0 where
  pub target : ℕ
  pub wakes : Bool

-- the next turn and the driver after it; none where none is left
abbrev pub next_turn : Driver → Option (Turn × Driver)
next_turn d = if d.left == 0 then None else Some (record { target = d.target; wakes = d.wakes }, record d { left = d.left - 1 })

-- what came of a turn
pub data Seen : Type 0 where
  Silence : Seen
  Progress : Seen
  Report : Seen
  Led : (leader : ℕ) → Seen
  Other : Seen

-- the least running id above, or the least one, or the same where none runs
abbrev pub next_target : ℕ → List ℕ → ℕ
next_target target running = unwrap_or (find (nat_lt target) running) (unwrap_or (slice_get running 0) target)

abbrev pub moves_on : Driver → List ℕ → Driver
moves_on d running = record d { target = next_target d.target running; wakes = true }

-- a report ends the turns; progress stays; a leader that runs is asked next; else the next one is, and is woken
abbrev pub seen : Driver → Seen → List ℕ → Driver
seen d Report running = record d { wakes = false; left = 0 }
seen d Progress running = record d { wakes = false }
seen d (Led leader) running = if is_in running leader then record d { target = leader; wakes = false } else moves_on d running
seen d Silence running = moves_on d running
seen d Other running = moves_on d running
