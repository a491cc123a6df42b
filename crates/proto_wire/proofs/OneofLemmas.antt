-- What one more field changes in the member that stands last, and in the first fault.
use Rattle.std.proofs.Common.{◌≡◌, ℕ, Bool, true, false, cond, eqb, List, [], ◌∷◌, ◌++◌, reverse, Option, None, Some, refl, sym, ap, ◌∙◌, inl, inr}
use Rattle.std.specs.Prelude.{take_while}
use Rattle.std.specs.List.{flat_map}
use Rattle.std.proofs.lemmas.Bool.{cases_Bool, cond-true, cond-false, eq-eqb, eqb-true}
use Rattle.std.proofs.lemmas.List.{append-nil, reverse-append}
use Rattle.std.proofs.lemmas.List.Concat.{flat_map-append}
use Rattle.std.proofs.lemmas.List.Elements.{filter-append}
use Rattle.std.proofs.lemmas.List.Sums.{take_while-cons}
use Rattle.proto_wire.specs.Fields.{Field}
use Rattle.proto_wire.specs.Reading.{embedded, is_member, members_of, last_member, run_so_far}

abbrev fields_in : List Field → List Field
fields_in members = flat_map (λ m. (embedded m).fields) members

abbrev same : ℕ → Field → Bool
same number m = eqb m.number number

-- the run of a number that stands first of the members from the last one on
abbrev run_of : ℕ → List Field → List Field
run_of number newest = fields_in (reverse (take_while (same number) newest))

abbrev from_last : List Field → Option (ℕ × List Field)
from_last [] = None
from_last (last ∷ before) = Some (last.number, run_of last.number (last ∷ before))

run_of-cons : (f : Field) (newest : List Field) → run_of f.number (f ∷ newest) ≡ run_of f.number newest ++ (embedded f).fields
run_of-cons f newest =
    let tw : take_while (same f.number) (f ∷ newest) ≡ f ∷ take_while (same f.number) newest = take_while-cons (same f.number) f newest ∙ cond-true (eqb f.number f.number) _ _ (eq-eqb f.number f.number refl) in
    let before = take_while (same f.number) newest in
    ap (λ (ms : List Field). fields_in (reverse ms)) tw ∙ ap fields_in (reverse-append (f ∷ []) before) ∙ flat_map-append (λ m. (embedded m).fields) (reverse before) (f ∷ [])
    ∙ ap (λ (fs : List Field). fields_in (reverse before) ++ fs) (append-nil (embedded f).fields)

run_of-so_far : (number : ℕ) (newest : List Field) → run_of number newest ≡ run_so_far (from_last newest) number
run_of-so_far number [] = refl
run_of-so_far number (last ∷ before) =
    elim (cases_Bool (eqb last.number number)) [
      | inl one ↦ ap (λ (n : ℕ). run_of n (last ∷ before)) (sym (eqb-true _ _ one)) ∙ sym (cond-true (eqb last.number number) _ _ one)
      | inr other ↦ ap (λ (ms : List Field). fields_in (reverse ms)) (take_while-cons (same number) last before ∙ cond-false (eqb last.number number) _ _ other) ∙ sym (cond-false (eqb last.number number) _ _ other)
    ]

last_member-from_last : (low high : ℕ) (fs : List Field) → last_member low high fs ≡ from_last (reverse (members_of low high fs))
last_member-from_last low high fs = refl

members_of-push : (low high : ℕ) (fs : List Field) (f : Field) → members_of low high (fs ++ f ∷ []) ≡ members_of low high fs ++ cond (is_member low high f) (f ∷ []) []
members_of-push low high fs f = filter-append (is_member low high) fs (f ∷ [])

pub last_member-push : (low high : ℕ) (fs : List Field) (f : Field) → is_member low high f ≡ true → last_member low high (fs ++ f ∷ []) ≡ Some (f.number, run_so_far (last_member low high fs) f.number ++ (embedded f).fields)
last_member-push low high fs f member =
    let newest = reverse (members_of low high fs) in
    let all : reverse (members_of low high (fs ++ f ∷ [])) ≡ f ∷ newest =
    ap reverse (members_of-push low high fs f ∙ ap (λ (ms : List Field). members_of low high fs ++ ms) (cond-true (is_member low high f) _ _ member)) ∙ reverse-append (members_of low high fs) (f ∷ []) in
    let run : run_of f.number (f ∷ newest) ≡ run_so_far (from_last newest) f.number ++ (embedded f).fields = run_of-cons f newest ∙ ap (λ (gs : List Field). gs ++ (embedded f).fields) (run_of-so_far f.number newest) in
    ap from_last all ∙ ap (λ (gs : List Field). Some (f.number, gs)) run

pub last_member-skip : (low high : ℕ) (fs : List Field) (f : Field) → is_member low high f ≡ false → last_member low high (fs ++ f ∷ []) ≡ last_member low high fs
last_member-skip low high fs f other =
    ap (λ (ms : List Field). from_last (reverse ms)) (members_of-push low high fs f ∙ ap (λ (ms : List Field). members_of low high fs ++ ms) (cond-false (is_member low high f) _ _ other) ∙ append-nil (members_of low high fs))
