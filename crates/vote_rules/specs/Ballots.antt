-- To whom a ballot grants its vote.
use Rattle.std.specs.Prelude.{◌≡◌, ℕ, Bool, ◌&&◌, ◌||◌, ◌==◌, nat_lt, nat_le, length}
use Rattle.replica_model.specs.Path.{last_term}
use Rattle.replica_model.specs.Replica.{Replica}
use Rattle.vote_rules.specs.declared.ballot.Ballot.{Ballot}
use Rattle.vote_rules.specs.declared.ballot.LastEntry.{LastEntry}

-- no other id has the vote
abbrev pub is_free : Ballot → ℕ → Bool
is_free b from = b.vote == 0 || b.vote == from

-- the second entry is at least as new as the first one: compared by term, and then by index
abbrev pub is_as_new : LastEntry → LastEntry → Bool
is_as_new own asked = nat_lt own.term asked.term || (asked.term == own.term && nat_le own.index asked.index)

-- the replica's vote is the ballot's, and this is its last entry
pub record HasBallot (s : Replica) (b : Ballot) (last : LastEntry) : Type 0 where
  pub vote : s.vote ≡ b.vote
  pub last_index : length s.path ≡ last.index
  pub last_term : last_term s.path ≡ last.term
