use Rattle.std.proofs.Common.{◌≡◌, take, drop, []}
use Rattle.group_quorum.specs.Voters.{first_double}
use Rattle.group_quorum.proofs.voters.find_double.Given as goal

-- what is left to look at, after the ids that were seen
abbrev pub invariant-loop-place : goal.invariant-loop-place
invariant-loop-place l = first_double (take l.place l.voters) (drop l.place l.voters) ≡ first_double [] l.voters
