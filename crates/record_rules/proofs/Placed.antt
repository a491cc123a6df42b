-- What finding and putting a row do, where the place of the row is known.
use Rattle.std.proofs.Common.{◌≡◌, ℕ, zero, suc, ◌<◌, ◌≤◌, List, [], ◌∷◌, length, refl, sym, ap, subst, ◌∙◌, arith}
use Rattle.std.specs.Prelude.{Option, Some, None, slice_get, slice_set, slice_index_or, insert, IsSomeAnd}
use Rattle.std.specs.declared.cmp.Ordering.{Ordering}
use Rattle.std.specs.declared.cmp.Ordering.TheVariants.{Less, Equal, Greater}
use Rattle.std.specs.Ordering.{is_eq, match_ordering}
use Rattle.std.proofs.lemmas.Option.{slice_get_within, get_or_from_slice_get}
use Rattle.values.specs.declared.ids.ClientId.{ClientId}
use Rattle.values.specs.declared.row.Row.{Row}
use Rattle.record_rules.specs.Clients.{client_cmp}
use Rattle.record_rules.specs.Table.{row_of, put_row, IsRising}
use Rattle.record_rules.proofs.Clients.{client_total, flip, client_cmp-same, client_cmp-self, client_eq-self}
use Rattle.record_rules.proofs.Rows.{skip, take_head}

-- the row at the place is the client's
abbrev pub IsRowAt : List Row → ClientId → ℕ → Type 0
IsRowAt rows client at = IsSomeAnd (slice_get rows at) (λ row. row.client ≡ client)

-- the rows below the place come before the client, and those from it on come after it
pub record IsGap (rows : List Row) (client : ClientId) (at : ℕ) : Type 0 where
  pub within : at ≤ length rows
  pub before : (i : ℕ) (d : Row) → i < at → client_cmp (slice_index_or rows i d).client client ≡ Less
  pub after : (i : ℕ) (d : Row) → at ≤ i → i < length rows → client_cmp (slice_index_or rows i d).client client ≡ Greater

pub IsRising-tail : (r : Row) (rows : List Row) → IsRising (r ∷ rows) → IsRising rows
IsRising-tail r rows rising i j d low high = rising (suc i) (suc j) d (omega arith) (omega arith)

-- the head comes before each later row
head_before : (r : Row) (rows : List Row) (at : ℕ) (row : Row) → IsRising (r ∷ rows) → slice_get rows at ≡ Some row → client_cmp r.client row.client ≡ Less
head_before r rows at row rising e =
    subst (λ s. client_cmp r.client s.client ≡ Less) (get_or_from_slice_get rows at row row e) (rising 0 (suc at) row (omega arith) (let l = slice_get_within rows at row e in omega arith))

-- the row at a place is found by its client
pub row_of-at : (rows : List Row) (at : ℕ) (row : Row) → IsRising rows → slice_get rows at ≡ Some row → row_of rows row.client ≡ Some row
row_of-at [] at row rising e = cc
row_of-at (r ∷ rows) zero row rising e =
    let same : r ≡ row = cc in subst (λ s. row_of (r ∷ rows) s.client ≡ Some s) same (take_head r rows r.client (client_eq-self r.client))
row_of-at (r ∷ rows) (suc at) row rising e =
    skip r rows row.client (ap is_eq (head_before r rows at row rising e)) ∙ row_of-at rows at row (IsRising-tail r rows rising) e

pub put_row-at : (rows : List Row) (at : ℕ) (row : Row) → IsRising rows → IsRowAt rows row.client at → put_row rows row ≡ slice_set rows at row
put_row-at [] at row rising h = absurd h
put_row-at (r ∷ rows) zero row rising h =
    ap (λ o. match_ordering o (row ∷ r ∷ rows) (row ∷ rows) (r ∷ put_row rows row))
    (subst (λ c. client_cmp row.client c ≡ Equal) (sym h) (client_cmp-self row.client))
put_row-at (r ∷ rows) (suc at) row rising h =
    ap (λ o. match_ordering o (row ∷ r ∷ rows) (row ∷ rows) (r ∷ put_row rows row)) (comes_after (slice_get rows at) refl h)
    ∙ ap (λ rs. r ∷ rs) (put_row-at rows at row (IsRising-tail r rows rising) h)
  where
    comes_after : (found : Option Row) → slice_get rows at ≡ found → IsSomeAnd found (λ s. s.client ≡ row.client) → client_cmp row.client r.client ≡ Greater
    comes_after None e h = absurd h
    comes_after (Some s) e h = flip r.client row.client Less (subst (λ c. client_cmp r.client c ≡ Less) h (head_before r rows at s rising e))

-- at a gap no row is found, and a row that is put goes there
IsGap-tail : (r : Row) (rows : List Row) (client : ClientId) (at : ℕ) → IsGap (r ∷ rows) client (suc at) → IsGap rows client at
IsGap-tail r rows client at gap = record {
  within = let w = gap.within in omega arith;
  before = λ i d h. gap.before (suc i) d (omega arith);
  after = λ i d low high. gap.after (suc i) d (omega arith) (omega arith);
}

IsGap-zero : (r : Row) (rows : List Row) (client : ClientId) → IsGap (r ∷ rows) client zero → IsGap rows client zero
IsGap-zero r rows client gap = record {
  within = omega arith;
  before = λ i d h. absurd (omega arith);
  after = λ i d low high. gap.after (suc i) d (omega arith) (omega arith);
}

pub row_of-gap : (rows : List Row) (client : ClientId) (at : ℕ) → IsGap rows client at → row_of rows client ≡ None
row_of-gap [] client at gap = refl
row_of-gap (r ∷ rows) client zero gap =
    skip r rows client (ap is_eq (gap.after 0 r (omega arith) (omega arith))) ∙ row_of-gap rows client zero (IsGap-zero r rows client gap)
row_of-gap (r ∷ rows) client (suc at) gap =
    skip r rows client (ap is_eq (gap.before 0 r (omega arith))) ∙ row_of-gap rows client at (IsGap-tail r rows client at gap)

pub put_row-gap : (rows : List Row) (row : Row) (at : ℕ) → IsGap rows row.client at → put_row rows row ≡ insert rows at row
put_row-gap [] row zero gap = refl
put_row-gap [] row (suc at) gap = absurd (let w = gap.within in omega arith)
put_row-gap (r ∷ rows) row zero gap =
    ap (λ o. match_ordering o (row ∷ r ∷ rows) (row ∷ rows) (r ∷ put_row rows row))
    (flip r.client row.client Greater (gap.after 0 r (omega arith) (omega arith)))
put_row-gap (r ∷ rows) row (suc at) gap =
    ap (λ o. match_ordering o (row ∷ r ∷ rows) (row ∷ rows) (r ∷ put_row rows row))
    (flip r.client row.client Less (gap.before 0 r (omega arith)))
    ∙ ap (λ rs. r ∷ rs) (put_row-gap rows row at (IsGap-tail r rows row.client at gap))

-- putting a row keeps the order
abbrev pub EachAfter : ClientId → List Row → Type 0
EachAfter a [] = Unit {0}
EachAfter a (r ∷ rows) = (client_cmp a r.client ≡ Less) × EachAfter a rows

abbrev pub Ascends : List Row → Type 0
Ascends [] = Unit {0}
Ascends (r ∷ rows) = EachAfter r.client rows × Ascends rows

each_after : (a : ClientId) (rows : List Row) → ((j : ℕ) (d : Row) → j < length rows → client_cmp a (slice_index_or rows j d).client ≡ Less) → EachAfter a rows
each_after a [] h = tt
each_after a (r ∷ rows) h = (h 0 r (omega arith), each_after a rows (λ j d l. h (suc j) d (omega arith)))

pub ascends : (rows : List Row) → IsRising rows → Ascends rows
ascends [] rising = tt
ascends (r ∷ rows) rising =
    (each_after r.client rows (λ j d l. rising 0 (suc j) d (omega arith) (omega arith)), ascends rows (IsRising-tail r rows rising))

after_at : (a : ClientId) (rows : List Row) (j : ℕ) (d : Row) → EachAfter a rows → j < length rows → client_cmp a (slice_index_or rows j d).client ≡ Less
after_at a [] j d h l = absurd (omega arith)
after_at a (r ∷ rows) zero d h l = h.0
after_at a (r ∷ rows) (suc j) d h l = after_at a rows j d h.1 (omega arith)

pub rises : (rows : List Row) → Ascends rows → IsRising rows
rises [] h i j d low high = absurd (omega arith)
rises (r ∷ rows) h i zero d low high = absurd (omega arith)
rises (r ∷ rows) h zero (suc j) d low high = after_at r.client rows j d h.0 (omega arith)
rises (r ∷ rows) h (suc i) (suc j) d low high = rises rows h.1 i j d (omega arith) (omega arith)

pub after_further : (a b : ClientId) (rows : List Row) → client_cmp a b ≡ Less → EachAfter b rows → EachAfter a rows
after_further a b [] e h = tt
after_further a b (r ∷ rows) e h = (client_total.trans a b r.client e h.0, after_further a b rows e h.1)

after_put : (a : ClientId) (rows : List Row) (row : Row) → EachAfter a rows → client_cmp a row.client ≡ Less → EachAfter a (put_row rows row)
after_put a [] row h e = (e, tt)
after_put a (r ∷ rows) row h e = by (client_cmp row.client r.client) (after_put a rows row h.1 e)
  where
    by : (o : Ordering) → EachAfter a (put_row rows row) → EachAfter a (match_ordering o (row ∷ r ∷ rows) (row ∷ rows) (r ∷ put_row rows row))
    by Less later = (e, h)
    by Equal later = (e, h.1)
    by Greater later = (h.0, later)

ascends_put : (rows : List Row) (row : Row) → Ascends rows → Ascends (put_row rows row)
ascends_put [] row h = (tt, tt)
ascends_put (r ∷ rows) row h = by (client_cmp row.client r.client) refl (ascends_put rows row h.1)
  where
    by : (o : Ordering) → client_cmp row.client r.client ≡ o → Ascends (put_row rows row) → Ascends (match_ordering o (row ∷ r ∷ rows) (row ∷ rows) (r ∷ put_row rows row))
    by Less e later = ((e, after_further row.client r.client rows e h.0), h)
    by Equal e later = (subst (λ c. EachAfter c rows) (sym (client_cmp-same row.client r.client e)) h.0, h.1)
    by Greater e later = (after_put r.client rows row h.0 (flip row.client r.client Greater e), later)

pub IsRising-put : (rows : List Row) (row : Row) → IsRising rows → IsRising (put_row rows row)
IsRising-put rows row rising = rises (put_row rows row) (ascends_put rows row (ascends rows rising))
