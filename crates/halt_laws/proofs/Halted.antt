-- Where no halt is told nobody halted.
use Rattle.std.proofs.Common.{◌≡◌, ℕ, List, [], ◌∷◌, None, refl, sym, ap, ◌∙◌}
use Rattle.std.specs.Prelude.{option_map, filter_map}
use Rattle.std.specs.List.{AllByRecursion, cons_option}
use Rattle.group_model.specs.Run.{Recorded, World}
use Rattle.group_model.specs.Halts.{HaltLaws}
use Rattle.halt_laws.specs.OldVotes.{halted}

nobody_halted : (history : List Recorded) → AllByRecursion (λ (r : Recorded). r.call.batch.halt ≡ None) history → filter_map (λ (r : Recorded). option_map (λ difference. r.replica) r.call.batch.halt) history ≡ []
nobody_halted [] all = refl
nobody_halted (r ∷ history) all =
    ap (λ o. cons_option (option_map (λ difference. r.replica) o) (filter_map (λ (x : Recorded). option_map (λ difference. x.replica) x.call.batch.halt) history)) all.0
    ∙ nobody_halted history all.1

some_stands : (x : ℕ) (xs : List ℕ) → x ∷ xs ≡ [] → ⊥
some_stands x xs never = cc

-- where somebody halted the laws do not hold
pub laws_broken : (w : World) (x : ℕ) (xs : List ℕ) → halted w ≡ x ∷ xs → HaltLaws w → ⊥
laws_broken w x xs is laws = some_stands x xs (sym is ∙ nobody_halted w.field.history laws.no_halt_told)
