-- The first id of a list that already stood before it, one id at a time.
use Rattle.std.proofs.Common.{◌≡◌, ℕ, ◌+◌, ◌<◌, true, false, cond, List, [], ◌∷◌, ◌++◌, length, get_or, take, drop, Some, sym, ap, ◌∙◌}
use Rattle.std.proofs.lemmas.Bool.{cond-true, cond-false}
use Rattle.std.proofs.lemmas.List.{take_more, at_drop_more}
use Rattle.group_quorum.specs.Voters.{is_in, first_double}

module _ (ids : List ℕ) (i : ℕ) (here : i < length ids) where
  step : first_double (take i ids) (drop i ids) ≡ cond (is_in (take i ids) (get_or ids i 0)) (Some (get_or ids i 0)) (first_double (take i ids ++ get_or ids i 0 ∷ []) (drop (i + 1) ids))
  step = at_drop_more (first_double (take i ids)) ids i 0 here

  pub double_at : is_in (take i ids) (get_or ids i 0) ≡ true → first_double (take i ids) (drop i ids) ≡ Some (get_or ids i 0)
  double_at stood = step ∙ cond-true _ _ _ stood

  pub double_past : is_in (take i ids) (get_or ids i 0) ≡ false → first_double (take i ids) (drop i ids) ≡ first_double (take (i + 1) ids) (drop (i + 1) ids)
  double_past new = step ∙ cond-false _ _ _ new ∙ ap (λ seen. first_double seen (drop (i + 1) ids)) (sym (take_more ids i 0 here))
