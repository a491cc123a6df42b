-- When the marks of the voters are enough for a front of a path, and the greatest index that they are enough for.
use Rattle.std.specs.Prelude.{ℕ, zero, suc, ◌+◌, ◌-◌, Bool, cond, ◌&&◌, ◌||◌, nat_le, length, take, IsTrue}
use Rattle.group_quorum.specs.Conf.{Conf, met}
use Rattle.replica_model.specs.Path.{Path}
use Rattle.replica_model.specs.Configs.{conf, conf_index, older_conf}

-- a quorum of the path's configuration passes the test, and one of the configuration before it the other test
-- while the newest one is above the committed index
abbrev pub met_by_both : Conf → Path → ℕ → (ℕ → Bool) → (ℕ → Bool) → Bool
met_by_both first p committed who who_before =
    met (conf first p) who && (nat_le (conf_index p) committed || met (older_conf first p) who_before)

-- the marks are enough for the path r: a quorum of its configuration has marks of at least its length, and while
-- its configuration is above the committed index, a quorum of the one before has marks of at least that index
abbrev pub enough_for : Conf → Path → (ℕ → ℕ) → ℕ → Bool
enough_for first r mark committed =
    met_by_both first r committed (λ v. nat_le (length r) (mark v)) (λ v. nat_le (conf_index r) (mark v))

-- the same for the first i entries of a path
abbrev pub is_enough : Conf → Path → ℕ → (ℕ → ℕ) → ℕ → Bool
is_enough first p i mark committed = enough_for first (take i p) mark committed

-- the same as a fact
abbrev pub Enough : Conf → Path → ℕ → (ℕ → ℕ) → ℕ → Type 0
Enough first p i mark committed = IsTrue (is_enough first p i mark committed)

-- the greatest of the n numbers above `had` that passes, or `had` where none does
abbrev pub greatest_above : (ℕ → Bool) → ℕ → ℕ → ℕ
greatest_above passes had zero = had
greatest_above passes had (suc n) = cond (passes (had + suc n)) (had + suc n) (greatest_above passes had n)

-- the greatest number above `had` and up to `top` that passes, or `had` where none does
abbrev pub greatest_upto : (ℕ → Bool) → ℕ → ℕ → ℕ
greatest_upto passes had top = greatest_above passes had (top - had)
