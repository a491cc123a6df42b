-- The greatest number that passes a test.
use Rattle.std.proofs.Common.{◌≡◌, ℕ, zero, suc, ◌+◌, ◌-◌, ◌≤◌, inl, inr, Bool, true, false, cond, refl, ap, ◌∙◌, arith}
use Rattle.std.proofs.lemmas.Bool.{cases_lt, cases_eq}
use Rattle.replica_model.specs.Enough.{greatest_above, greatest_upto}
use Rattle.replica_model.specs.Laws.{IsGreatest, GreatestIsGreatest}

module _ (passes : ℕ → Bool) (had : ℕ) where
  none : IsGreatest passes had (had + 0) had
  none =
      record {
        at_least = omega arith;
        passing = λ ne. absurd (ne refl);
        within = λ ne. absurd (ne refl);
        greatest = λ k above below. absurd (omega (arith, above, below));
      }

  at_next : (n g : ℕ) (b : Bool) → passes (had + suc n) ≡ b → IsGreatest passes had (had + n) g → IsGreatest passes had (had + suc n) (cond b (had + suc n) g)
  at_next n g true is so_far =
      record {
        at_least = omega arith;
        passing = λ ne. is;
        within = λ ne. omega arith;
        greatest = λ k above below. absurd (omega (arith, above, below));
      }
  at_next n g false is so_far =
      record {
        at_least = so_far.at_least;
        passing = so_far.passing;
        within = λ ne. let w : g ≤ had + n = so_far.within ne in omega (arith, w);
        greatest = λ k above below. elim (cases_eq k (had + suc n)) [
          | inl same ↦ ap passes same ∙ is
          | inr other ↦ so_far.greatest k above (omega (arith, below, other))
        ];
      }

  pub above : (n : ℕ) → IsGreatest passes had (had + n) (greatest_above passes had n)
  above zero = none
  above (suc n) = at_next n (greatest_above passes had n) (passes (had + suc n)) refl (above n)

pub greatest : GreatestIsGreatest
greatest passes had top =
    let g : ℕ = greatest_upto passes had top in
    let is : IsGreatest passes had (had + (top - had)) g = above passes had (top - had) in
    record {
      at_least = is.at_least;
      passing = is.passing;
      within = λ ne. elim (cases_lt top had) [
        | inl less ↦ absurd (ne (let w : g ≤ had + (top - had) = is.within ne in omega (arith, w, is.at_least, less)))
        | inr more ↦ (let w : g ≤ had + (top - had) = is.within ne in omega (arith, w, more))
      ];
      greatest = λ k higher lower. is.greatest k higher (omega (arith, lower));
    }
