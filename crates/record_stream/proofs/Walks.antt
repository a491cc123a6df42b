-- Places that are found from some place on, and the bytes before them.
use Rattle.std.proofs.Common.{arith, refl, sym, ap, ◌∙◌, ◌≡◌, ◌+◌, ◌-◌, ◌<◌, ◌≤◌, ◌==◌, not, ℕ, suc, List, [], ◌∷◌, ◌++◌, length, take, drop, get_or, slice_range, Bool, true, inl, inr, append_assoc, append-nil}
use Rattle.std.specs.Borrow.{Bor}
use Rattle.std.proofs.lemmas.Bool.{cases_Bool, or_right}
use Rattle.std.proofs.lemmas.List.{drop-drop, get_or-drop, get_or-take, length-drop, length-take-le, map-append, take_all, take_more}
use lib.Seq.{take-add}
use Rattle.memchr.proofs.lemmas.FindLemmas.{Nowhere-then}
use Rattle.memchr.specs.Find.{NoneBefore, Nowhere, Passes, is_byte}
use Rattle.record_cutting.specs.Lines.{Record, record_of}
use Rattle.record_stream.specs.Plain.{cells, is_marked, is_plain, is_plain_byte}
use Rattle.record_stream.proofs.Lacking.{Lacks, first, later, one_cell, take_lacks}

-- ---- a place behind the first bytes

module _ (t : ℕ → Bool) (xs : List ℕ) (s : ℕ) (le : s ≤ length xs) where
  passes_here : (k : ℕ) → s ≤ k → Passes t xs k → Passes t (drop s xs) (k - s)
  passes_here k low p =
      let place : s + (k - s) ≡ k = omega arith in
      ap t (get_or-drop s xs (k - s) 0 ∙ ap (λ (n : ℕ). get_or xs n 0) place) ∙ p

  pub none_from : Nowhere (Passes t (drop s xs)) 0 (length (drop s xs)) → Nowhere (Passes t xs) s (length xs)
  none_from h k low high p = h (k - s) (omega arith) (omega (arith, length-drop s xs)) (passes_here k low p)

  pub some_from : (at : ℕ) → NoneBefore (Passes t (drop s xs)) 0 (length (drop s xs)) at × Passes t (drop s xs) at → NoneBefore (Passes t xs) s (length xs) (s + at) × Passes t xs (s + at)
  some_from at (none, here) = (
    record {
      low = omega arith;
      high = omega (arith, none.high, length-drop s xs);
      before = λ k low high p. none.before (k - s) (omega arith) (omega arith) (passes_here k low p);
    },
    sym (ap t (get_or-drop s xs at 0)) ∙ here,
  )

-- ---- bytes between two places

pub between_parts : (xs : List ℕ) (i j k : ℕ) → i ≤ j → j ≤ k → slice_range xs i k ≡ slice_range xs i j ++ slice_range xs j k
between_parts xs i j k low high =
    let size : k - i ≡ (j - i) + (k - j) = omega arith in
    let place : i + (j - i) ≡ j = omega arith in
    ap (λ (n : ℕ). take n (drop i xs)) size ∙ take-add (j - i) (k - j) (drop i xs)
    ∙ ap (λ (l : List ℕ). slice_range xs i j ++ take (k - j) l) (drop-drop (j - i) i xs ∙ ap (λ (n : ℕ). drop n xs) place)

pub between_none : (xs : List ℕ) (i : ℕ) → slice_range xs i i ≡ []
between_none xs i = let none : i - i ≡ 0 = omega arith in ap (λ (n : ℕ). take n (drop i xs)) none

-- the bytes up to a place, and the byte there
pub between_more : (xs : List ℕ) (i k : ℕ) → i ≤ k → k < length xs → slice_range xs i (k + 1) ≡ slice_range xs i k ++ (get_or xs k 0 ∷ [])
between_more xs i k low lt =
    let size : (k + 1) - i ≡ (k - i) + 1 = omega arith in
    let place : i + (k - i) ≡ k = omega arith in
    ap (λ (n : ℕ). take n (drop i xs)) size
    ∙ take_more (drop i xs) (k - i) 0 (omega (arith, length-drop i xs))
    ∙ ap (λ (b : ℕ). slice_range xs i k ++ (b ∷ [])) (get_or-drop i xs (k - i) 0 ∙ ap (λ (n : ℕ). get_or xs n 0) place)

pub take_between : (xs : List ℕ) (i k : ℕ) → i ≤ k → take k xs ≡ take i xs ++ slice_range xs i k
take_between xs i k low = let size : k ≡ i + (k - i) = omega arith in ap (λ (n : ℕ). take n xs) size ∙ take-add i (k - i) xs

pub between_rest : (xs : List ℕ) (i : ℕ) → slice_range xs i (length xs) ≡ drop i xs
between_rest xs i = take_all (length xs - i) (drop i xs) (omega (arith, length-drop i xs))

-- where no byte from a place on is b, the bytes there have none
pub lacks_from : (b : ℕ) (xs : List ℕ) (i k : ℕ) → Nowhere (Passes (is_byte b) xs) i k → Lacks b (drop i xs) (k - i)
lacks_from b xs i k none n lt e = none (i + n) (omega arith) (omega arith) (ap (λ (x : ℕ). x == b) (sym (get_or-drop i xs n 0)) ∙ e)

pub lacks_between : (b : ℕ) (xs : List ℕ) (i k : ℕ) → k ≤ length xs → Nowhere (Passes (is_byte b) xs) i k → Lacks b (slice_range xs i k) (length (slice_range xs i k))
lacks_between b xs i k le none = take_lacks b (drop i xs) (k - i) (omega (arith, length-drop i xs)) (lacks_from b xs i k none)

-- ---- bytes that mean nothing

-- no plain byte
abbrev pub is_other : ℕ → Bool
is_other b = not (is_plain_byte b)

pub no_comma : (xs : List ℕ) (i k : ℕ) → Nowhere (Passes is_marked xs) i k → Nowhere (Passes (is_byte 44) xs) i k
no_comma xs i k none n low high e = none n low high (rw e refl)

pub no_other : (xs : List ℕ) (i k : ℕ) → Nowhere (Passes is_marked xs) i k → Nowhere (Passes is_other xs) i k
no_other xs i k none n low high e = none n low high (or_right (get_or xs n 0 == 44) (is_other (get_or xs n 0)) e)

-- a comma is plain, and so is a byte that is none of the others
pub comma_plain : (xs : List ℕ) (at : ℕ) → get_or xs at 0 ≡ 44 → ¬ Passes is_other xs at
comma_plain xs at comma e = cc (rw comma at e)

plain_bytes : (xs : List ℕ) → ((k : ℕ) → k < length xs → ¬ Passes is_other xs k) → is_plain xs ≡ true
plain_bytes [] h = refl
plain_bytes (b ∷ bs) h = elim (cases_Bool (is_plain_byte b)) [
  | inl y ↦ rw y (plain_bytes bs (λ k lt. h (suc k) (omega arith)))
  | inr n ↦ absurd (h 0 (omega arith) (rw n refl))
]

pub plain_between : (xs : List ℕ) (i k : ℕ) → k ≤ length xs → Nowhere (Passes is_other xs) i k → is_plain (slice_range xs i k) ≡ true
plain_between xs i k le none = plain_bytes (slice_range xs i k) (λ n lt e.
    let size = length-take-le (k - i) (drop i xs) (omega (arith, length-drop i xs)) in
    let here : n < k - i = omega (arith, lt, size) in
    none (i + n) (omega arith) (omega arith) (ap is_other (sym (get_or-take (k - i) (drop i xs) n 0 here ∙ get_or-drop i xs n 0)) ∙ e))

-- plain bytes and then bytes that mean nothing
pub plain_then : (xs : List ℕ) (i j k : ℕ) → k ≤ length xs → Nowhere (Passes is_other xs) i j → Nowhere (Passes is_marked xs) j k → is_plain (slice_range xs i k) ≡ true
plain_then xs i j k le plain nothing = plain_between xs i k le (Nowhere-then plain (no_other xs j k nothing))

-- ---- the fields of a line

-- a field before a comma
cell_seam : (p cell tail : List ℕ) → Lacks 44 cell (length cell) → cells p (cell ++ (44 ∷ tail)) ≡ (p ++ cell) ∷ cells [] tail
unfolding cells
cell_seam p [] tail h = ap (λ (l : List ℕ). l ∷ cells [] tail) (sym (append-nil p))
cell_seam p (b ∷ bs) tail h = rw (first 44 b bs (length bs) h) (cell_seam (p ++ (b ∷ [])) bs tail (later 44 b bs (length bs) h) ∙ ap (λ (l : List ℕ). l ∷ cells [] tail) (append_assoc p (b ∷ []) bs))

-- these are the fields of some bytes that a comma ends, whatever follows
abbrev pub CutTo : Record → List ℕ → Type 0
CutTo fields bytes = (tail : List ℕ) → fields ++ cells [] tail ≡ cells [] (bytes ++ tail)

-- one more field
pub record_more : (fields : List (Bor (List ℕ))) (field : Bor (List ℕ)) → record_of (fields ++ (field ∷ [])) ≡ record_of fields ++ (field.now ∷ [])
record_more fields field = map-append (λ (f : Bor (List ℕ)). f.now) fields (field ∷ [])

module _ (piece : List ℕ) (begin start at : ℕ) (low : begin ≤ start) (high : start ≤ at) (le : at ≤ length piece) (none : Nowhere (Passes is_marked piece) start at)
    (fields : List (Bor (List ℕ))) (field : Bor (List ℕ)) (cell : field.now ≡ slice_range piece start at) (so_far : CutTo (record_of fields) (slice_range piece begin start)) where
  lacks : Lacks 44 (slice_range piece start at) (length (slice_range piece start at))
  lacks = lacks_between 44 piece start at le (no_comma piece start at none)

  pub cut_more : at < length piece → get_or piece at 0 ≡ 44 → CutTo (record_of (fields ++ (field ∷ []))) (slice_range piece begin (at + 1))
  cut_more lt comma tail =
      let seg = slice_range piece start at in
      ap (λ (l : Record). l ++ cells [] tail) (record_more fields field ∙ ap (λ (l : List ℕ). record_of fields ++ (l ∷ [])) cell)
      ∙ append_assoc (record_of fields) (seg ∷ []) (cells [] tail)
      ∙ ap (λ (l : Record). record_of fields ++ l) (sym (cell_seam [] seg tail lacks))
      ∙ so_far (seg ++ (44 ∷ tail))
      ∙ ap (cells []) (
      sym (append_assoc (slice_range piece begin start) seg (44 ∷ tail))
      ∙ ap (λ (l : List ℕ). l ++ (44 ∷ tail)) (sym (between_parts piece begin start at low high))
      ∙ sym (append_assoc (slice_range piece begin at) (44 ∷ []) tail)
      ∙ ap (λ (l : List ℕ). l ++ tail) (ap (λ (b : ℕ). slice_range piece begin at ++ (b ∷ [])) (sym comma) ∙ sym (between_more piece begin at (omega arith) lt)))

  pub cut_last : record_of (fields ++ (field ∷ [])) ≡ cells [] (slice_range piece begin at)
  cut_last =
      let seg = slice_range piece start at in
      record_more fields field
      ∙ ap (λ (l : List ℕ). record_of fields ++ (l ∷ [])) cell
      ∙ ap (λ (l : Record). record_of fields ++ l) (sym (one_cell [] seg lacks))
      ∙ so_far seg
      ∙ ap (cells []) (sym (between_parts piece begin start at low high))
