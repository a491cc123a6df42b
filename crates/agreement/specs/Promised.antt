-- Which paths were promised by quorums at each place, and when all promises keep to one path.
use Rattle.std.specs.Prelude.{◌≡◌, ℕ, ◌*◌, ◌≤◌, Bool, false, ◌⊎◌, List, [], ◌∷◌, ◌++◌, count_by}
use Rattle.values.specs.declared.entry.Body.TheVariants.{Members}
use Rattle.values.specs.declared.entry.LogEntry.{LogEntry}
use Rattle.group_quorum.specs.Conf.{Conf}
use Rattle.replica_model.specs.Path.{Path}
use Rattle.replica_model.specs.Configs.{conf}
use Rattle.group_model.specs.Log.{IsFrontOf, MetBy}

-- one of the two begins with the other
abbrev pub IsComparable : Path → Path → Type 0
IsComparable p q = IsFrontOf p q ⊎ IsFrontOf q p

-- `Ever v p`: the replica v ever promised p, or a longer path that begins with p.
-- A quorum of the configuration before it promised each place of the path
abbrev pub EachPlacePromised : Conf → (ℕ → Path → Type 0) → Path → Type 0
EachPlacePromised first Ever p =
    (front : Path) (e : LogEntry) (rest : Path) → front ++ e ∷ rest ≡ p → MetBy (conf first front) (λ v. Ever v (front ++ e ∷ []))

-- at most twice the margin of the voters were rolled back
abbrev pub Bears : (ℕ → Bool) → Conf → Type 0
Bears rolled c = count_by rolled c.voters ≤ 2 * c.margin

-- what all promises of a run keep within the rollback bound
pub record KeepsToOnePath (first : Conf) (rolled : ℕ → Bool) (Ever : ℕ → Path → Type 0) : Type 0 where
  -- who promised a path promised each front of it
  pub shorter : (v : ℕ) (p w : Path) → IsFrontOf p w → Ever v w → Ever v p
  -- who was never rolled back promises along one path
  pub one_path : (v : ℕ) (p q : Path) → rolled v ≡ false → Ever v p → Ever v q → IsComparable p q
  -- the first configuration bears the rollbacks, and so does each that a path ever promised gained
  pub first_bears : Bears rolled first
  pub gained_bear : (v : ℕ) (p : Path) (term margin : ℕ) (voters : List ℕ) → Ever v (p ++ record { term = term; body = Members margin voters } ∷ []) → Bears rolled (record { margin = margin; voters = voters })
