-- What holds of the table of any list of places, and a table that is made again of its rows.
use Rattle.std.proofs.Common.{◌≡◌, ℕ, ◌<◌, ◌≤◌, ◌==◌, ◌⊎◌, inl, inr, cond, List, [], ◌∷◌, ◌++◌, length, refl, sym, ap, subst, ◌∙◌, arith}
use Rattle.std.specs.Prelude.{Option, Some, None, IsSome, is_some, is_none, ◌&&◌, nat_le, nat_lt, fold, slice_index_or}
use Rattle.std.specs.declared.cmp.Ordering.TheVariants.{Less}
use Rattle.std.proofs.lemmas.Bool.{cond_both, eqb-false, lt-ltb}
use Rattle.std.proofs.lemmas.List.{append-nil, append_assoc, length-append, get_or_append_left, get_or_at}
use Rattle.std.proofs.lemmas.List.Edits.{insert_end}
use Rattle.values.specs.declared.ids.ClientId.{ClientId}
use Rattle.values.specs.declared.row.Row.{Row}
use Rattle.values.specs.declared.row.Kept.{Kept}
use Rattle.values.specs.declared.message.Request.{Request}
use Rattle.values.specs.declared.message.Request.TheVariants.{Backup, Restore, Delete, Expose}
use Rattle.values.specs.declared.message.Reply.{Reply}
use Rattle.values.specs.declared.message.Reply.TheVariants.{Stale, TableFull}
use Rattle.record_rules.specs.Clients.{client_cmp}
use Rattle.record_rules.specs.Table.{RecordTable, empty_table, row_of, put_row, IsRising, with_row, row_added}
use Rattle.record_rules.specs.Rules.{act, after_acting, apply_by}
use Rattle.record_rules.specs.Places.{ClientAsk, Places, apply_place, fold_places}
use Rattle.record_rules.specs.Laws.{IsBounded}
use Rattle.record_rules.proofs.Placed.{IsGap, row_of-gap, put_row-gap, IsRising-put}
use Rattle.record_rules.proofs.Sound.{fits_put}

module _ (limit : ℕ) (table : RecordTable) (bounded : IsBounded limit table) (client : ClientId) (number : ℕ) where
  abbrev InBounds : RecordTable × Reply → Type 0
  InBounds after = IsBounded limit after.0

  put : (kept : Option Kept) → IsSome (row_of table.rows client) ⊎ (length table.rows < limit)
      → IsBounded limit (with_row table (record { client = client; last = number; kept = kept }))
  put kept room = record {
    limit_is = bounded.limit_is;
    few = fits_put table.rows (record { client = client; last = number; kept = kept }) limit bounded.rising bounded.few room;
    rising = IsRising-put table.rows (record { client = client; last = number; kept = kept }) bounded.rising;
  }

  applied : (request : Request) (found : Option Row) → row_of table.rows client ≡ found → InBounds (apply_by found table client number request)
  applied request (Some row) e =
      cond_both (nat_le number row.last) (table, Stale row.last) (after_acting table client number (act request row.kept)) InBounds
      (λ b. bounded) (λ b. put (act request row.kept).0 (inl (ap is_some e)))
  applied (Backup secret pin tries) None e =
      cond_both (length table.rows == table.limit) (table, TableFull table.limit) (after_acting table client number (act (Backup secret pin tries) None)) InBounds
      (λ b. bounded)
      (λ b.
      let apart = eqb-false (length table.rows) table.limit b in
      let few = bounded.few in
      let is = bounded.limit_is in
      put (act (Backup secret pin tries) None).0 (inr (omega arith)))
  applied (Restore pin) None e = bounded
  applied Delete None e = bounded
  applied (Expose secret) None e = bounded

placed : (limit : ℕ) (table : RecordTable) (place : Option ClientAsk) → IsBounded limit table → IsBounded limit (apply_place table place)
placed limit table None bounded = bounded
placed limit table (Some ask) bounded = applied limit table bounded ask.client ask.number ask.request (row_of table.rows ask.client) refl

folded : (limit : ℕ) (places : Places) (table : RecordTable) → IsBounded limit table → IsBounded limit (fold apply_place table places)
folded limit [] table bounded = bounded
folded limit (place ∷ places) table bounded = folded limit places (apply_place table place) (placed limit table place bounded)

pub bounded : (limit : ℕ) (places : Places) → IsBounded limit (fold_places limit places)
bounded limit places =
    folded limit places (empty_table limit) (record { limit_is = refl; few = omega arith; rising = λ i j d low high. absurd (omega arith) })

-- ---- a table of its own rows

abbrev with_rows : ℕ → List Row → RecordTable
with_rows limit rows = record { limit = limit; rows = rows }

-- the rows before one that rises with them end where it goes
end_gap : (front : List Row) (r : Row) (rows : List Row) → IsRising (front ++ r ∷ rows) → IsGap front r.client (length front)
end_gap front r rows rising = record {
  within = omega arith;
  before = λ i d h.
      subst (λ (s : Row). client_cmp s.client r.client ≡ Less) (get_or_append_left front (r ∷ rows) d i h)
      (subst (λ (s : Row). client_cmp (slice_index_or (front ++ r ∷ rows) i d).client s.client ≡ Less) (get_or_at front r rows d (length front) refl)
      (rising i (length front) d h (let l = length-append front (r ∷ rows) in omega arith)));
  after = λ i d low high. absurd (omega arith);
}

added_last : (limit : ℕ) (front : List Row) (r : Row) → IsGap front r.client (length front) → length front < limit
    → row_added (with_rows limit front) r ≡ with_rows limit (front ++ r ∷ [])
added_last limit front r gap room =
    ap (λ b. cond b (with_rows limit (put_row front r)) (with_rows limit front))
    (ap (λ o. is_none o && nat_lt (length front) limit) (row_of-gap front r.client (length front) gap) ∙ lt-ltb (length front) limit room)
    ∙ ap (with_rows limit) (put_row-gap front r (length front) gap ∙ insert_end front r)

made_from : (limit : ℕ) (front rows : List Row) → IsRising (front ++ rows) → length (front ++ rows) ≤ limit
    → fold row_added (with_rows limit front) rows ≡ with_rows limit (front ++ rows)
made_from limit front [] rising few = ap (with_rows limit) (sym (append-nil front))
made_from limit front (r ∷ rows) rising few =
    let grouped : (front ++ r ∷ []) ++ rows ≡ front ++ r ∷ rows = append_assoc front (r ∷ []) rows in
    let l = length-append front (r ∷ rows) in
    ap (λ t. fold row_added t rows) (added_last limit front r (end_gap front r rows rising) (omega arith))
    ∙ made_from limit (front ++ r ∷ []) rows (subst IsRising (sym grouped) rising) (subst (λ rs. length rs ≤ limit) (sym grouped) few)
    ∙ ap (with_rows limit) grouped

pub made_again : (limit : ℕ) (table : RecordTable) → IsBounded limit table → fold row_added (empty_table limit) table.rows ≡ table
made_again limit table bounded =
    made_from limit [] table.rows bounded.rising bounded.few ∙ (λ i. with_rows (sym bounded.limit_is i) table.rows)
