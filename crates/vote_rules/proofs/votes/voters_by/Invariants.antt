use Rattle.std.proofs.Common.{◌≡◌, take}
use Rattle.vote_rules.proofs.votes.voters_by.Given as goal

-- so far the voters of the newest configuration stand there
abbrev pub invariant-loop-voter : goal.invariant-loop-voter
invariant-loop-voter l = l.ids.items ≡ take l.voter-index l.voter-items
