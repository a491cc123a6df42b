-- Fields that are lent one by one.
use Rattle.std.proofs.Common.{refl, sym, ap, ◌∙◌, ◌≡◌, ◌+◌, ℕ, zero, suc, add-one, List, [], ◌∷◌, ◌++◌, take, Option, Some, None}
use Rattle.std.specs.Borrow.{Bor}
use Rattle.std.specs.Prelude.{option_map}
use Rattle.csv.specs.Records.{field_at}
use Rattle.record_cutting.specs.Lines.{Record, record_of}
use Rattle.record_stream.proofs.Walks.{record_more}

found_at : (fields : Record) (i : ℕ) (x : List ℕ) → field_at fields i ≡ Some x → take (suc i) fields ≡ take i fields ++ (x ∷ [])
unfolding field_at
found_at [] i x e = cc e
found_at (f ∷ fs) zero x e = cc e
found_at (f ∷ fs) (suc i) x e = ap (λ (l : Record). f ∷ l) (found_at fs i x e)

missing_at : (fields : Record) (i : ℕ) → field_at fields i ≡ None → take i fields ≡ fields
unfolding field_at
missing_at [] zero e = refl
missing_at [] (suc i) e = refl
missing_at (f ∷ fs) zero e = cc e
missing_at (f ∷ fs) (suc i) e = ap (λ (l : Record). f ∷ l) (missing_at fs i e)

-- the next field of a record is lent
pub lent_more : (fields : Record) (i : ℕ) (o : Option (Bor (List ℕ))) (field : Bor (List ℕ)) (lent : List (Bor (List ℕ))) → o ≡ Some field → option_map (λ (f : Bor (List ℕ)). f.now) o ≡ field_at fields i
    → record_of lent ≡ take i fields → record_of (lent ++ (field ∷ [])) ≡ take (i + 1) fields
lent_more fields i o field lent is value so_far =
    let found = found_at fields i field.now (sym value ∙ ap (option_map (λ (f : Bor (List ℕ)). f.now)) is) in
    record_more lent field ∙ ap (λ (l : Record). l ++ (field.now ∷ [])) so_far ∙ sym found ∙ ap (λ (n : ℕ). take n fields) (sym (add-one i))

-- none is left
pub lent_all : (fields : Record) (i : ℕ) (o : Option (Bor (List ℕ))) (lent : List (Bor (List ℕ))) → o ≡ None → option_map (λ (f : Bor (List ℕ)). f.now) o ≡ field_at fields i
    → record_of lent ≡ take i fields → record_of lent ≡ fields
lent_all fields i o lent is value so_far = so_far ∙ missing_at fields i (sym value ∙ ap (option_map (λ (f : Bor (List ℕ)). f.now)) is)
