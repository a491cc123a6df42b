use Rattle.std.proofs.Common.{◌≡◌, ◌+◌, ◌≤◌, ◌++◌, ℕ, List, length, take, drop}
use Rattle.trace_picture.specs.Taking.{IsFront}
use Rattle.trace_picture.proofs.source.Front.take.Given as goal

-- the bytes before a place were taken, each line of them whole
abbrev pub invariant-loop-end : goal.invariant-loop-end
invariant-loop-end l =
    (at : ℕ) × (l.rest ≡ drop at l.fn.piece) × (at + length l.rest ≡ length l.fn.piece)
    × ((bytes : List ℕ) → IsFront l.fn.self bytes → IsFront l.self (bytes ++ take at l.fn.piece))
    × (l.self.lines ≤ l.fn.self.lines + at)

abbrev pub decreases-loop-end : goal.decreases-loop-end
decreases-loop-end l = length l.rest
