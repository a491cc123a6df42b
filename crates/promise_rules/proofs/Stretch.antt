-- The search for the greatest index, where one configuration stands.
use Rattle.std.proofs.Common.{◌≡◌, ℕ, ◌+◌, ◌-◌, ◌<◌, ◌≤◌, min, max, sym, ap, subst, ◌∙◌, arith}
use Rattle.std.specs.Prelude.{◌&&◌, nat_le, Option}
use Rattle.replica_model.specs.Enough.{greatest_upto}
use Rattle.replica_model.specs.Laws.{IsGreatest}
use Rattle.replica_log.specs.declared.configs.Configs.{Configs}
use Rattle.replica_log.specs.Window.{Window, base_index, configs_at}
use Rattle.promise_rules.specs.Raising.{enough_by, is_of_term, passes}
use Rattle.promise_rules.proofs.Upto.{hit, miss}

module _ (w : Window) (term : Option ℕ) (mark : ℕ → ℕ) (had top : ℕ) (least : base_index w ≤ had) (less : had < top)
    (k : Configs) (committed lowest reach highest found : ℕ) (at_most : k.newest_index ≤ top)
    (stay : (i : ℕ) → base_index w ≤ i → k.newest_index ≤ i → i ≤ top → configs_at w i ≡ k) (committed_is : committed ≡ w.committed)
    (reach_is : (i : ℕ) → 1 ≤ i → enough_by k committed mark i ≡ nat_le i reach) (lowest_is : lowest ≡ max k.newest_index (had + 1))
    (highest_is : highest ≡ min reach top) (found_is : IsGreatest (is_of_term w term) (lowest - 1) highest found) where
  had_below : had ≤ lowest - 1
  had_below = omega (arith, lowest_is)

  below_top : lowest - 1 < top
  below_top = omega (arith, lowest_is, at_most, less)

  -- from the lowest index on the same configurations stand
  same : (i : ℕ) → lowest - 1 < i → i ≤ top → passes w term mark i ≡ (is_of_term w term i && nat_le i reach)
  same i above within =
      let here : k.newest_index ≤ i = omega (arith, lowest_is, above) in
      let base : base_index w ≤ i = omega (arith, least, had_below, above) in
      ap (λ c. is_of_term w term i && enough_by c w.committed mark i) (stay i base here within)
      ∙ ap (λ n. is_of_term w term i && enough_by k n mark i) (sym committed_is)
      ∙ ap (λ b. is_of_term w term i && b) (reach_is i (omega (arith, above)))

  found_at : IsGreatest (is_of_term w term) (lowest - 1) (min reach top) found
  found_at = subst (λ n. IsGreatest (is_of_term w term) (lowest - 1) n found) highest_is found_is

  pub stretch_hit : lowest - 1 < found → found ≡ greatest_upto (passes w term mark) had top
  stretch_hit more = sym (hit (passes w term mark) (is_of_term w term) had (lowest - 1) top reach found had_below below_top same found_at more)

  pub stretch_miss : found ≤ lowest - 1 → greatest_upto (passes w term mark) had top ≡ greatest_upto (passes w term mark) had (lowest - 1)
  stretch_miss none = miss (passes w term mark) (is_of_term w term) had (lowest - 1) top reach found had_below below_top same found_at none

  pub stretch_within : lowest - 1 < found → (had < found) × (found ≤ top)
  stretch_within more =
      let within : found ≤ min reach top = found_at.within (λ e. omega (arith, e, more)) in
      (omega (arith, had_below, more), omega (arith, within))
