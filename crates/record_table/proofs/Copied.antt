-- Rows that are copied one after another.
use Rattle.std.proofs.Common.{◌≡◌, ℕ, zero, suc, ◌+◌, ◌-◌, ◌<◌, ◌≤◌, List, [], ◌∷◌, ◌++◌, length, take, drop, sym, ap, ◌∙◌, arith, length-drop}
use Rattle.std.specs.Prelude.{Some, None, slice_get, slice_index_or}
use Rattle.std.proofs.lemmas.Option.{slice_get_within, get_or_from_slice_get}
use Rattle.std.proofs.lemmas.List.{take_more, get_or-drop}
use Rattle.values.specs.declared.row.Row.{Row}

-- the rows from a place on, with the next one
pub one_more : (rows : List Row) (place at : ℕ) (row : Row) → place ≤ at → slice_get rows at ≡ Some row
    → take (at - place) (drop place rows) ++ row ∷ [] ≡ take (at + 1 - place) (drop place rows)
one_more rows place at row from e =
    let below = slice_get_within rows at row e in
    let inside : at - place < length (drop place rows) = omega (arith, length-drop place rows) in
    let where_it_is : place + (at - place) ≡ at = omega arith in
    let next : slice_index_or (drop place rows) (at - place) row ≡ row =
    get_or-drop place rows (at - place) row ∙ ap (λ i. slice_index_or rows i row) where_it_is ∙ get_or_from_slice_get rows at row row e in
    let count : at - place + 1 ≡ at + 1 - place = omega arith in
    ap (λ r. take (at - place) (drop place rows) ++ r ∷ []) (sym next)
    ∙ sym (take_more (drop place rows) (at - place) row inside)
    ∙ ap (λ n. take n (drop place rows)) count

-- there is no row only past the last one
pub none_past : (rows : List Row) (at : ℕ) → None ≡ slice_get rows at → length rows ≤ at
none_past [] at e = omega arith
none_past (r ∷ rows) zero e = absurd (cc)
none_past (r ∷ rows) (suc at) e = let past = none_past rows at e in omega arith
