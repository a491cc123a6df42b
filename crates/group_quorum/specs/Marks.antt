-- The greatest number that a quorum has reached.
use Rattle.std.specs.Prelude.{ℕ, ◌≤◌, ◌==◌, Bool, if◌then◌else◌, List, [], ◌∷◌, map, filter, max, fold, nat_le}
use Rattle.group_quorum.specs.Conf.{Conf, Met, met}

-- the first mark of a voter, 0 where it has none
abbrev pub mark_of : List (ℕ × ℕ) → ℕ → ℕ
mark_of [] v = 0
mark_of (m ∷ marks) v = if m.0 == v then m.1 else mark_of marks v

-- whether a voter has a mark of at least n
abbrev pub reaches : List (ℕ × ℕ) → ℕ → ℕ → Bool
reaches marks n v = nat_le n (mark_of marks v)

-- n is the greatest number that a quorum of the voters has reached
pub record IsGreatestMet (c : Conf) (marks : List (ℕ × ℕ)) (n : ℕ) : Type 0 where
  pub reached : Met c (reaches marks n)
  pub greatest : (k : ℕ) → Met c (reaches marks k) → k ≤ n

-- that number: the greatest of the voters' own marks that a quorum has reached
abbrev pub greatest_met : Conf → List (ℕ × ℕ) → ℕ
greatest_met c marks = fold max 0 (filter (λ n. met c (reaches marks n)) (map (mark_of marks) c.voters))
