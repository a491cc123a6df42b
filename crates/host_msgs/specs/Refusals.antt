-- The refusals by their codes and numbers.
use Rattle.std.specs.Prelude.{ℕ, ◌^◌, ◌==◌, ◌||◌, ◌&&◌, not, nat_le, nat_lt, Option, Some, None, if◌then◌else◌}
use Rattle.values.specs.declared.batch.Refusal.{Refusal}
use Rattle.values.specs.declared.batch.Refusal.TheVariants.{NotLeader, ChangePending, AlreadyVoter, NotVoter, TooFew, TooMany, NotCaughtUp, NoLink, LogFull, NoState, NotForMe, BadPeer, SameMargin}
use Rattle.values.specs.declared.limits.TheConstants.{TOP}
use Rattle.group_quorum.specs.declared.TheConstants.{MAX_MARGIN}

-- the code of a refusal and its two numbers, 0 where it has fewer
abbrev pub refusal_numbers : Refusal → ℕ × (ℕ × ℕ)
refusal_numbers (NotLeader known) = (1, (known, 0))
refusal_numbers (ChangePending newest committed) = (2, (newest, committed))
refusal_numbers (AlreadyVoter id) = (3, (id, 0))
refusal_numbers (NotVoter id) = (4, (id, 0))
refusal_numbers (TooFew count) = (5, (count, 0))
refusal_numbers (TooMany count) = (6, (count, 0))
refusal_numbers (NotCaughtUp mark committed) = (7, (mark, committed))
refusal_numbers (NoLink id) = (8, (id, 0))
refusal_numbers (LogFull last) = (9, (last, 0))
refusal_numbers (NoState k) = (10, (k, 0))
refusal_numbers (NotForMe to) = (11, (to, 0))
refusal_numbers (BadPeer offset) = (12, (offset, 0))
refusal_numbers (SameMargin margin) = (13, (margin, 0))

-- the refusals of two indices, and of one number of 32 bits
abbrev pub two_indices : (code first second : ℕ) → Option Refusal
two_indices code first second =
    if nat_lt TOP first || nat_lt TOP second then None
    else Some (if code == 2 then ChangePending first second else NotCaughtUp first second)

abbrev pub small_refusal : (code number : ℕ) → Option Refusal
small_refusal code n =
    if code == 1 then Some (NotLeader n)
    else if code == 3 then Some (AlreadyVoter n)
    else if code == 4 then Some (NotVoter n)
    else if code == 5 then Some (TooFew n)
    else if code == 6 then Some (TooMany n)
    else if code == 8 then Some (NoLink n)
    else if code == 10 then Some (NoState n)
    else if code == 11 then Some (NotForMe n)
    else None

-- the last index of a full log is an index, an offset has 64 bits, and a margin is at most 15
abbrev pub one_number : (code number : ℕ) → Option Refusal
one_number code n =
    if code == 9 then (if nat_le n TOP then Some (LogFull n) else None)
    else if code == 12 then Some (BadPeer n)
    else if code == 13 then (if nat_le n MAX_MARGIN then Some (SameMargin n) else None)
    else if nat_lt n (2 ^ 32) then small_refusal code n
    else None

-- the refusal of a code and its numbers, if they are those of one
abbrev pub refusal_of : (code first second : ℕ) → Option Refusal
refusal_of code first second =
    if code == 2 || code == 7 then two_indices code first second
    else if second == 0 then one_number code first
    else None
