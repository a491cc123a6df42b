-- Rows before and behind a row.
use Rattle.std.proofs.Common.{◌≡◌, ℕ, ◌+◌, ◌<◌, ◌≤◌, List, [], ◌∷◌, ◌++◌, length, refl, sym, ap, subst, ◌∙◌, arith, cond}
use Rattle.std.specs.Prelude.{Some, None}
use Rattle.std.specs.declared.cmp.Ordering.{Ordering}
use Rattle.std.specs.declared.cmp.Ordering.TheVariants.{Less, Equal, Greater}
use Rattle.std.specs.Ordering.{is_eq, match_ordering}
use Rattle.values.specs.declared.ids.ClientId.{ClientId}
use Rattle.values.specs.declared.row.Row.{Row}
use Rattle.record_rules.specs.Clients.{client_cmp, client_eq}
use Rattle.record_rules.specs.Table.{row_of, put_row, IsRising}
use Rattle.record_rules.proofs.Clients.{client_total, flip, client_cmp-same}
use Rattle.record_rules.proofs.Rows.{skip, take_head}
use Rattle.record_rules.proofs.Placed.{EachAfter, Ascends, ascends, rises, after_further}

each_front : (a : ClientId) (l m : List Row) → EachAfter a (l ++ m) → EachAfter a l
each_front a [] m h = tt
each_front a (y ∷ l) m h = (h.0, each_front a l m h.1)

front : (l m : List Row) → Ascends (l ++ m) → Ascends l
front [] m h = tt
front (y ∷ l) m h = (each_front y.client l m h.0, front l m h.1)

back : (l m : List Row) → Ascends (l ++ m) → Ascends m
back [] m h = h
back (y ∷ l) m h = back l m h.1

pub rising_front : (l m : List Row) → IsRising (l ++ m) → IsRising l
rising_front l m h = rises l (front l m (ascends (l ++ m) h))

pub rising_back : (l : List Row) (r : Row) (s : List Row) → IsRising (l ++ r ∷ s) → IsRising s
rising_back l r s h = rises s (back l (r ∷ s) (ascends (l ++ r ∷ s) h)).1

-- the row comes after those before it
before : (a : ClientId) (l : List Row) (r : Row) (s : List Row) → EachAfter a (l ++ r ∷ s) → client_cmp a r.client ≡ Less
before a [] r s h = h.0
before a (y ∷ l) r s h = before a l r s h.1

not_same : (a b : ClientId) (o : Ordering) → client_cmp a b ≡ o → is_eq o ≡ Rattle.std.proofs.Common.false → client_eq a b ≡ Rattle.std.proofs.Common.false
not_same a b o e n = ap is_eq e ∙ n

none_below : (client : ClientId) (rows : List Row) → EachAfter client rows → row_of rows client ≡ None
none_below client [] h = refl
none_below client (r ∷ rows) h = skip r rows client (not_same r.client client Greater (flip client r.client Less h.0) refl) ∙ none_below client rows h.1

-- ---- the row of a client below, at or above the row in the middle

row_below : (l : List Row) (r : Row) (s : List Row) (client : ClientId) → Ascends (l ++ r ∷ s) → client_cmp client r.client ≡ Less
    → row_of (l ++ r ∷ s) client ≡ row_of l client
row_below [] r s client h e = none_below client (r ∷ s) (e, after_further client r.client s e h.0)
row_below (y ∷ l) r s client h e = ap (λ o. cond (client_eq y.client client) (Some y) o) (row_below l r s client h.1 e)

row_at : (l : List Row) (r : Row) (s : List Row) (client : ClientId) → Ascends (l ++ r ∷ s) → client_cmp client r.client ≡ Equal
    → row_of (l ++ r ∷ s) client ≡ Some r
row_at [] r s client h e = take_head r s client (ap is_eq (flip client r.client Equal e))
row_at (y ∷ l) r s client h e =
    skip y (l ++ r ∷ s) client
    (not_same y.client client Less (subst (λ c. client_cmp y.client c ≡ Less) (sym (client_cmp-same client r.client e)) (before y.client l r s h.0)) refl)
    ∙ row_at l r s client h.1 e

row_above : (l : List Row) (r : Row) (s : List Row) (client : ClientId) → Ascends (l ++ r ∷ s) → client_cmp client r.client ≡ Greater
    → row_of (l ++ r ∷ s) client ≡ row_of s client
row_above [] r s client h e = skip r s client (not_same r.client client Less (flip client r.client Greater e) refl)
row_above (y ∷ l) r s client h e =
    skip y (l ++ r ∷ s) client
    (not_same y.client client Less (client_total.trans y.client r.client client (before y.client l r s h.0) (flip client r.client Greater e)) refl)
    ∙ row_above l r s client h.1 e

pub row_of-below : (l : List Row) (r : Row) (s : List Row) (client : ClientId) → IsRising (l ++ r ∷ s) → client_cmp client r.client ≡ Less
    → row_of (l ++ r ∷ s) client ≡ row_of l client
row_of-below l r s client h e = row_below l r s client (ascends (l ++ r ∷ s) h) e

pub row_of-middle : (l : List Row) (r : Row) (s : List Row) (client : ClientId) → IsRising (l ++ r ∷ s) → client_cmp client r.client ≡ Equal
    → row_of (l ++ r ∷ s) client ≡ Some r
row_of-middle l r s client h e = row_at l r s client (ascends (l ++ r ∷ s) h) e

pub row_of-above : (l : List Row) (r : Row) (s : List Row) (client : ClientId) → IsRising (l ++ r ∷ s) → client_cmp client r.client ≡ Greater
    → row_of (l ++ r ∷ s) client ≡ row_of s client
row_of-above l r s client h e = row_above l r s client (ascends (l ++ r ∷ s) h) e

-- ---- a row that is put there

pub put_row-below : (l : List Row) (r : Row) (s : List Row) (row : Row) → client_cmp row.client r.client ≡ Less
    → put_row (l ++ r ∷ s) row ≡ put_row l row ++ r ∷ s
put_row-below [] r s row e = ap (λ o. match_ordering o (row ∷ r ∷ s) (row ∷ s) (r ∷ put_row s row)) e
put_row-below (y ∷ l) r s row e = by (client_cmp row.client y.client) (put_row-below l r s row e)
  where
    by : (o : Ordering) → put_row (l ++ r ∷ s) row ≡ put_row l row ++ r ∷ s
        → match_ordering o (row ∷ y ∷ (l ++ r ∷ s)) (row ∷ (l ++ r ∷ s)) (y ∷ put_row (l ++ r ∷ s) row)
        ≡ match_ordering o (row ∷ y ∷ l) (row ∷ l) (y ∷ put_row l row) ++ r ∷ s
    by Less later = refl
    by Equal later = refl
    by Greater later = ap (λ rows. y ∷ rows) later

put_later : (y : Row) (rows : List Row) (row : Row) → client_cmp y.client row.client ≡ Less → put_row (y ∷ rows) row ≡ y ∷ put_row rows row
put_later y rows row e = ap (λ o. match_ordering o (row ∷ y ∷ rows) (row ∷ rows) (y ∷ put_row rows row)) (flip y.client row.client Less e)

put_at : (l : List Row) (r : Row) (s : List Row) (row : Row) → Ascends (l ++ r ∷ s) → client_cmp row.client r.client ≡ Equal
    → put_row (l ++ r ∷ s) row ≡ l ++ row ∷ s
put_at [] r s row h e = ap (λ o. match_ordering o (row ∷ r ∷ s) (row ∷ s) (r ∷ put_row s row)) e
put_at (y ∷ l) r s row h e =
    put_later y (l ++ r ∷ s) row (subst (λ c. client_cmp y.client c ≡ Less) (sym (client_cmp-same row.client r.client e)) (before y.client l r s h.0))
    ∙ ap (λ rows. y ∷ rows) (put_at l r s row h.1 e)

put_above : (l : List Row) (r : Row) (s : List Row) (row : Row) → Ascends (l ++ r ∷ s) → client_cmp row.client r.client ≡ Greater
    → put_row (l ++ r ∷ s) row ≡ l ++ r ∷ put_row s row
put_above [] r s row h e = ap (λ o. match_ordering o (row ∷ r ∷ s) (row ∷ s) (r ∷ put_row s row)) e
put_above (y ∷ l) r s row h e =
    put_later y (l ++ r ∷ s) row (client_total.trans y.client r.client row.client (before y.client l r s h.0) (flip row.client r.client Greater e))
    ∙ ap (λ rows. y ∷ rows) (put_above l r s row h.1 e)

pub put_row-middle : (l : List Row) (r : Row) (s : List Row) (row : Row) → IsRising (l ++ r ∷ s) → client_cmp row.client r.client ≡ Equal
    → put_row (l ++ r ∷ s) row ≡ l ++ row ∷ s
put_row-middle l r s row h e = put_at l r s row (ascends (l ++ r ∷ s) h) e

pub put_row-above : (l : List Row) (r : Row) (s : List Row) (row : Row) → IsRising (l ++ r ∷ s) → client_cmp row.client r.client ≡ Greater
    → put_row (l ++ r ∷ s) row ≡ l ++ r ∷ put_row s row
put_row-above l r s row h e = put_above l r s row (ascends (l ++ r ∷ s) h) e

-- a row of a new client is one more
pub length-put_new : (rows : List Row) (row : Row) → row_of rows row.client ≡ None → length (put_row rows row) ≡ length rows + 1
length-put_new [] row e = omega arith
length-put_new (r ∷ rows) row e =
    by (client_cmp row.client r.client) refl (λ g. length-put_new rows row (sym (skip r rows row.client (not_same r.client row.client Less (flip row.client r.client Greater g) refl)) ∙ e))
  where
    by : (o : Ordering) → client_cmp row.client r.client ≡ o → (client_cmp row.client r.client ≡ Greater → length (put_row rows row) ≡ length rows + 1)
        → length (match_ordering o (row ∷ r ∷ rows) (row ∷ rows) (r ∷ put_row rows row)) ≡ length (r ∷ rows) + 1
    by Less g more = omega arith
    by Equal g more = absurd (let some = take_head r rows row.client (ap is_eq (flip row.client r.client Equal g)) in cc)
    by Greater g more = let one = more g in omega arith
