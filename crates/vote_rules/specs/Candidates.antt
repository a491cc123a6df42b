-- The votes of a candidate as a list.
use Rattle.std.specs.Prelude.{ℕ, List, take}
use Rattle.vote_rules.specs.declared.votes.Votes.{Votes}

-- the ids whose votes are counted
abbrev pub ids_of : Votes → List ℕ
ids_of v = take v.count v.ids
