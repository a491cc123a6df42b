-- The greatest number that passes a test, step by step.
use Rattle.std.proofs.Common.{◌≡◌, ℕ, zero, suc, ◌+◌, ◌-◌, ◌<◌, ◌≤◌, inl, inr, Bool, true, false, cond, min, refl, sym, ap, ◌∙◌, arith}
use Rattle.std.specs.Prelude.{◌&&◌, nat_le}
use Rattle.std.proofs.lemmas.Bool.{cases_lt, le-leb, lt-leb}
use Rattle.replica_model.specs.Enough.{greatest_above, greatest_upto}
use Rattle.replica_model.specs.Laws.{IsGreatest}

and_false : (b : Bool) → (b && false) ≡ false
and_false true = refl
and_false false = refl

module _ (passes : ℕ → Bool) (had : ℕ) where
  -- nothing above `had`
  pub upto_past : (top : ℕ) → top ≤ had → greatest_upto passes had top ≡ had
  upto_past top past = ap (greatest_above passes had) (let n : top - had ≡ 0 = omega (arith, past) in n)

  -- the last one passes
  pub upto_hit : (i : ℕ) → had < i → passes i ≡ true → greatest_upto passes had i ≡ i
  upto_hit i above pass =
      let n : ℕ = i - had - 1 in
      let is : i - had ≡ suc n = omega (arith, above) in
      let at : had + suc n ≡ i = omega (arith, above) in
      ap (greatest_above passes had) is
      ∙ ap (λ k. cond (passes k) k (greatest_above passes had n)) at
      ∙ ap (λ b. cond b i (greatest_above passes had n)) pass

  -- the last one does not
  pub upto_miss : (i : ℕ) → had < i → passes i ≡ false → greatest_upto passes had i ≡ greatest_upto passes had (i - 1)
  upto_miss i above fail =
      let n : ℕ = i - had - 1 in
      let is : i - had ≡ suc n = omega (arith, above) in
      let at : had + suc n ≡ i = omega (arith, above) in
      let rest : n ≡ i - 1 - had = omega (arith, above) in
      ap (greatest_above passes had) is
      ∙ ap (λ k. cond (passes k) k (greatest_above passes had n)) at
      ∙ ap (λ b. cond b i (greatest_above passes had n)) fail
      ∙ ap (greatest_above passes had) rest

  -- none of the last ones does
  skip_by : (n m : ℕ) → had ≤ m → ((k : ℕ) → m < k → k ≤ m + n → passes k ≡ false) → greatest_upto passes had (m + n) ≡ greatest_upto passes had m
  skip_by zero m low none = ap (greatest_upto passes had) (let e : m + 0 ≡ m = omega arith in e)
  skip_by (suc n) m low none =
      upto_miss (m + suc n) (omega (arith, low)) (none (m + suc n) (omega arith) (omega arith))
      ∙ ap (greatest_upto passes had) (let e : m + suc n - 1 ≡ m + n = omega arith in e)
      ∙ skip_by n m low (λ k above below. none k above (omega (arith, below)))

  pub upto_skip : (m top : ℕ) → had ≤ m → m ≤ top → ((k : ℕ) → m < k → k ≤ top → passes k ≡ false)
      → greatest_upto passes had top ≡ greatest_upto passes had m
  upto_skip m top low le none =
      let e : m + (top - m) ≡ top = omega (arith, le) in
      ap (greatest_upto passes had) (sym e) ∙ skip_by (top - m) m low (λ k above below. none k above (omega (arith, below, le)))

-- a stretch in which a test passes up to an index and where another one does
module _ (passes of : ℕ → Bool) (had below top reach found : ℕ) (low : had ≤ below) (less : below < top)
    (same : (k : ℕ) → below < k → k ≤ top → passes k ≡ (of k && nat_le k reach)) (is : IsGreatest of below (min reach top) found) where
  none_after : (k : ℕ) → found < k → k ≤ top → passes k ≡ false
  none_after k above within =
      let least = is.at_least in
      same k (omega (arith, above, least)) within ∙ (elim (cases_lt reach k) [
        | inl past ↦ ap (λ b. of k && b) (lt-leb k reach past) ∙ and_false (of k)
        | inr reached ↦ ap (λ b. b && nat_le k reach) (is.greatest k above (omega (arith, within, reached)))
      ])

  upto_found : found ≤ top → greatest_upto passes had top ≡ greatest_upto passes had found
  upto_found within = let least = is.at_least in upto_skip passes had found top (omega (arith, least, low)) within none_after

  -- where one is found it is the greatest
  pub hit : below < found → greatest_upto passes had top ≡ found
  hit more =
      let ne : found ≡ below → ⊥ = λ e. omega (arith, e, more) in
      let most : found ≤ min reach top = is.within ne in
      upto_found (omega (arith, most))
      ∙ upto_hit passes had found (omega (arith, low, more)) (
      same found more (omega (arith, most))
      ∙ ap (λ b. b && nat_le found reach) (is.passing ne) ∙ le-leb found reach (omega (arith, most))
      )

  -- else it stands lower
  pub miss : found ≤ below → greatest_upto passes had top ≡ greatest_upto passes had below
  miss none =
      let least = is.at_least in
      let at : found ≡ below = omega (arith, least, none) in
      upto_found (omega (arith, none, less)) ∙ ap (greatest_upto passes had) at
