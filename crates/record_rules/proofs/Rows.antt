-- A row that was put is found, and every other is found as before.
use Rattle.std.proofs.Common.{◌≡◌, Bool, true, false, cond, List, [], ◌∷◌, refl, sym, ap, subst, ◌∙◌}
use Rattle.std.specs.Prelude.{Some}
use Rattle.std.specs.declared.cmp.Ordering.{Ordering}
use Rattle.std.specs.declared.cmp.Ordering.TheVariants.{Less, Equal, Greater}
use Rattle.std.specs.Ordering.{ordering_reverse, is_eq, match_ordering}
use Rattle.values.specs.declared.ids.ClientId.{ClientId}
use Rattle.values.specs.declared.row.Row.{Row}
use Rattle.record_rules.specs.Clients.{client_cmp, client_eq}
use Rattle.record_rules.specs.Table.{row_of, put_row}
use Rattle.record_rules.proofs.Clients.{client_total, client_cmp-same, client_eq-true, client_eq-self}

found_by : (b : Bool) (r row : Row) (rows : List Row) (client : ClientId) → client_eq r.client client ≡ b
    → cond b (Some r) (row_of rows client) ≡ Some row → (row_of rows client ≡ Some row → row.client ≡ client) → row.client ≡ client
found_by true r row rows client same e later = let is : r ≡ row = cc in subst (λ s. s.client ≡ client) is (client_eq-true r.client client same)
found_by false r row rows client same e later = later e

-- the row that is found is the client's
pub row_of-client : (rows : List Row) (client : ClientId) (row : Row) → row_of rows client ≡ Some row → row.client ≡ client
row_of-client [] client row e = cc
row_of-client (r ∷ rows) client row e = found_by (client_eq r.client client) r row rows client refl e (row_of-client rows client row)

-- how the row of a list whose head is known is found
pub skip : (r : Row) (rows : List Row) (client : ClientId) → client_eq r.client client ≡ false → row_of (r ∷ rows) client ≡ row_of rows client
skip r rows client e = ap (λ b. cond b (Some r) (row_of rows client)) e

pub take_head : (r : Row) (rows : List Row) (client : ClientId) → client_eq r.client client ≡ true → row_of (r ∷ rows) client ≡ Some r
take_head r rows client e = ap (λ b. cond b (Some r) (row_of rows client)) e

turned : (r row : Row) → client_cmp row.client r.client ≡ Greater → client_eq r.client row.client ≡ false
turned r row e = ap is_eq (client_total.antisymm r.client row.client ∙ ap ordering_reverse e)

put_found : (o : Ordering) (r row : Row) (rows : List Row) → client_cmp row.client r.client ≡ o → row_of (put_row rows row) row.client ≡ Some row
    → row_of (match_ordering o (row ∷ r ∷ rows) (row ∷ rows) (r ∷ put_row rows row)) row.client ≡ Some row
put_found Less r row rows is later = take_head row (r ∷ rows) row.client (client_eq-self row.client)
put_found Equal r row rows is later = take_head row rows row.client (client_eq-self row.client)
put_found Greater r row rows is later = skip r (put_row rows row) row.client (turned r row is) ∙ later

pub row_of-put_same : (rows : List Row) (row : Row) → row_of (put_row rows row) row.client ≡ Some row
row_of-put_same [] row = take_head row [] row.client (client_eq-self row.client)
row_of-put_same (r ∷ rows) row = put_found (client_cmp row.client r.client) r row rows refl (row_of-put_same rows row)

put_other : (o : Ordering) (r row : Row) (rows : List Row) (client : ClientId) → client_cmp row.client r.client ≡ o → client_eq row.client client ≡ false
    → row_of (put_row rows row) client ≡ row_of rows client
    → row_of (match_ordering o (row ∷ r ∷ rows) (row ∷ rows) (r ∷ put_row rows row)) client ≡ row_of (r ∷ rows) client
put_other Less r row rows client is other later = skip row (r ∷ rows) client other
put_other Equal r row rows client is other later =
    skip row rows client other
    ∙ sym (skip r rows client (subst (λ c. client_eq c client ≡ false) (client_cmp-same row.client r.client is) other))
put_other Greater r row rows client is other later = ap (λ o. cond (client_eq r.client client) (Some r) o) later

pub row_of-put_other : (rows : List Row) (row : Row) (client : ClientId) → client_eq row.client client ≡ false
    → row_of (put_row rows row) client ≡ row_of rows client
row_of-put_other [] row client other = skip row [] client other
row_of-put_other (r ∷ rows) row client other =
    put_other (client_cmp row.client r.client) r row rows client refl other (row_of-put_other rows row client other)
