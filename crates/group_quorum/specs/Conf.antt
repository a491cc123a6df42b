-- A configuration of a group, its quorum, and who meets it.
use Rattle.std.specs.Prelude.{ℕ, ◌+◌, ◌/◌, ◌≤◌, Bool, List, length, nat_le, count_by}

-- the voters in rising order, and the margin: so many more than a majority must agree, since a voter that is rolled back forgets what it promised
pub record Conf : Type 0 where
  pub margin : ℕ
  pub voters : List ℕ

-- how many voters make a quorum
abbrev pub quorum_of : Conf → ℕ
quorum_of c = length c.voters / 2 + 1 + c.margin

-- at least a quorum of the voters pass the test `who`
abbrev pub Met : Conf → (ℕ → Bool) → Type 0
Met c who = quorum_of c ≤ count_by who c.voters

-- the same as a test
abbrev pub met : Conf → (ℕ → Bool) → Bool
met c who = nat_le (quorum_of c) (count_by who c.voters)
