-- Who was started in a group, and who of them runs.
use Rattle.std.specs.Prelude.{ℕ, ◌≡◌, ◌≤◌, Bool, true, false, List, length, All, IsOk}
use Rattle.std.specs.List.Sorted.{IsStrictlyIncreasing}
use Rattle.group_quorum.specs.Voters.{IsId, is_in, conf_of}
use Rattle.values.specs.declared.limits.TheConstants.{MAX_REPLICAS, MOST_ROWS}

-- who runs was started, and before the begin nobody runs
pub record IsRoster (begun : Bool) (running started : List ℕ) : Type 0 where
  pub ids : All IsId running
  pub in_order : IsStrictlyIncreasing running
  pub known : (v : ℕ) → is_in running v ≡ true → is_in started v ≡ true
  pub few : length running ≤ length started
  pub most : length started ≤ MAX_REPLICAS
  pub idle : begun ≡ false → length running ≡ 0

-- a begin record without a fault says this
pub record IsSetup (margin limit : ℕ) (voters : List ℕ) : Type 0 where
  pub conf : IsOk (conf_of margin voters)
  pub limit_from : 1 ≤ limit
  pub limit_to : limit ≤ MOST_ROWS
