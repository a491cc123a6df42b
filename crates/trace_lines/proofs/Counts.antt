-- Lines by how many fields they have: those with too few, or too many, have none of the forms.
use Rattle.std.proofs.Common.{◌≡◌, ℕ, ◌<◌, ◌&&◌, ◌∙◌, suc, Bool, true, false, None, List, [], ◌∷◌, length, refl, ap, arith, Bor, zip}
use Rattle.std.specs.List.{list_all}
use Rattle.record_cutting.specs.Lines.{record_of}
use Rattle.trace_lines.specs.declared.kind.Kind.{Kind}
use Rattle.trace_lines.specs.Kinds.{fits, fits_field}
use Rattle.trace_lines.specs.Lines.{ask_in, commit_in, is_sent, members_in}

abbrev Fields : Type 0
Fields = List (Bor (List ℕ))

and_none : (b : Bool) → false ≡ b && false
and_none true = refl
and_none false = refl

pub fits_unequal : (kinds : List Kind) (fields : Fields) → (length kinds ≡ length fields → ⊥) → false ≡ fits kinds (record_of fields)
fits_unequal [] [] other = absurd (other refl)
fits_unequal [] (x ∷ fields) other = refl
fits_unequal (k ∷ kinds) [] other = refl
fits_unequal (k ∷ kinds) (x ∷ fields) other = and_none (fits_field k x.now) ∙ ap (λ b. fits_field k x.now && b) (fits_unequal kinds fields (λ same. other (ap suc same)))

pub fits_zip : (kinds : List Kind) (fields : Fields) → length kinds ≡ length fields
    → list_all (λ (p : Kind × Bor (List ℕ)). fits_field p.0 p.1.now) (zip kinds fields) ≡ fits kinds (record_of fields)
fits_zip [] [] same = refl
fits_zip [] (x ∷ fields) same = absurd (omega (arith, same))
fits_zip (k ∷ kinds) [] same = absurd (omega (arith, same))
fits_zip (k ∷ kinds) (x ∷ fields) same = ap (λ b. fits_field k x.now && b) (fits_zip kinds fields (omega (arith, same)))

pub few_sent : (fields : Fields) → length fields < 3 → false ≡ is_sent (record_of fields)
few_sent [] few = refl
few_sent (a ∷ []) few = refl
few_sent (a ∷ b ∷ []) few = refl
few_sent (a ∷ b ∷ c ∷ more) few = absurd (omega (arith, few))

pub few_commit : (fields : Fields) → length fields < 3 → commit_in (record_of fields) ≡ None
few_commit [] few = refl
few_commit (a ∷ []) few = refl
few_commit (a ∷ b ∷ []) few = refl
few_commit (a ∷ b ∷ c ∷ more) few = absurd (omega (arith, few))

pub few_members : (fields : Fields) → length fields < 2 → members_in (record_of fields) ≡ None
few_members [] few = refl
few_members (a ∷ []) few = refl
few_members (a ∷ b ∷ more) few = absurd (omega (arith, few))

pub few_ask : (fields : Fields) → length fields < 3 → ask_in (record_of fields) ≡ None
few_ask [] few = refl
few_ask (a ∷ []) few = refl
few_ask (a ∷ b ∷ []) few = refl
few_ask (a ∷ b ∷ c ∷ more) few = absurd (omega (arith, few))

pub many_ask : (fields : Fields) → 3 < length fields → ask_in (record_of fields) ≡ None
many_ask [] many = refl
many_ask (a ∷ []) many = refl
many_ask (a ∷ b ∷ []) many = refl
many_ask (a ∷ b ∷ c ∷ []) many = absurd (omega (arith, many))
many_ask (a ∷ b ∷ c ∷ d ∷ more) many = refl
