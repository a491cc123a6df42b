-- A table stays sound.
use Rattle.std.proofs.Common.{◌≡◌, ℕ, zero, suc, ◌+◌, ◌-◌, ◌<◌, ◌≤◌, ◌⊎◌, inl, inr, Bool, true, false, cond, List, [], ◌∷◌, length, refl, sym, ap, subst, ◌∙◌, arith}
use Rattle.std.specs.Prelude.{Option, Some, None, IsSome, IsSomeAnd, is_some, IfSome, All, slice_get, ◌==◌, bytes_eq}
use Rattle.std.specs.declared.cmp.Ordering.{Ordering}
use Rattle.std.specs.declared.cmp.Ordering.TheVariants.{Less, Equal, Greater}
use Rattle.std.specs.Ordering.{match_ordering}
use Rattle.std.proofs.Math.ListN.{length-set}
use Rattle.std.proofs.lemmas.Bool.{eqb-false}
use Rattle.values.specs.declared.entry.Hash.{Hash}
use Rattle.values.specs.declared.ids.ClientId.{ClientId}
use Rattle.values.specs.declared.row.Row.{Row}
use Rattle.values.specs.declared.row.Kept.{Kept}
use Rattle.values.specs.declared.message.Request.{Request}
use Rattle.values.specs.declared.message.Request.TheVariants.{Backup, Restore, Delete, Expose}
use Rattle.values.specs.declared.message.Response.{Response}
use Rattle.values.specs.declared.message.Response.TheVariants.{Restore as Restored, Expose as Exposed}
use Rattle.record_rules.specs.declared.status.TheConstants.{OK, MISSING, ERROR}
use Rattle.record_rules.specs.Clients.{client_cmp, client_eq}
use Rattle.record_rules.specs.Table.{RecordTable, row_of, put_row, IsRising, with_row}
use Rattle.record_rules.specs.Rules.{act, after_guess, after_wrong_guess}
use Rattle.values.specs.Sizes.{IsValid}
use Rattle.record_rules.specs.Valid.{IsValidRecord, IsValidRow, IsSound}
use Rattle.record_rules.proofs.Rows.{row_of-client}
use Rattle.record_rules.proofs.Placed.{IsRowAt, put_row-at, IsRising-put}

abbrev pub IsValidKept : Option Kept → Type 0
IsValidKept kept = IfSome kept IsValidRecord

-- ---- a request that acts leaves a valid record

one_less : (kept : Kept) (b : Bool) → (kept.left - 1 == 0) ≡ b → IsValidRecord kept
    → IsValidKept (cond {A = Option Kept} b None (Some (record kept { left = kept.left - 1 })))
one_less kept true e valid = tt
one_less kept false e valid = let some = eqb-false (kept.left - 1) 0 e in let most = valid.1.1 in (valid.0, (omega arith, omega arith))

guessed : (kept : Kept) (b : Bool) → IsValidRecord kept
    → IsValidKept (cond {A = Option Kept × Response} b (Some kept, Restored OK kept.secret kept.left) (after_wrong_guess kept)).0
guessed kept true valid = valid
guessed kept false valid = one_less kept (kept.left - 1 == 0) refl valid

restored : (pin : Hash) (kept : Kept) (b : Bool) → IsValidRecord kept
    → IsValidKept (cond {A = Option Kept × Response} b (after_guess pin kept) (Some kept, Restored MISSING [] 0)).0
restored pin kept true valid = guessed kept (bytes_eq kept.pin.0 pin.0) valid
restored pin kept false valid = valid

exposed : (kept : Kept) (b : Bool) → IsValidRecord kept
    → IsValidKept (cond {A = Option Kept × Response} b (Some (record kept { exposed = true }), Exposed OK) (Some kept, Exposed ERROR)).0
exposed kept true valid = valid
exposed kept false valid = valid

pub act_valid : (request : Request) (kept : Option Kept) → IsValid request → IsValidKept kept → IsValidKept (act request kept).0
act_valid (Backup secret pin tries) kept sizes valid = sizes
act_valid (Restore pin) None sizes valid = tt
act_valid (Restore pin) (Some kept) sizes valid = restored pin kept kept.exposed valid
act_valid Delete kept sizes valid = tt
act_valid (Expose secret) None sizes valid = tt
act_valid (Expose secret) (Some kept) sizes valid = exposed kept (bytes_eq kept.secret secret) valid

-- ---- putting a valid row

tail : (r : Row) (rows : List Row) → All IsValidRow (r ∷ rows) → All IsValidRow rows
tail r rows valid k d h = valid (suc k) d (omega arith)

cons : (r : Row) (rows : List Row) → IsValidRow r → All IsValidRow rows → All IsValidRow (r ∷ rows)
cons r rows here valid zero d h = here
cons r rows here valid (suc k) d h = valid k d (omega arith)

valid_put : (rows : List Row) (row : Row) → All IsValidRow rows → IsValidRow row → All IsValidRow (put_row rows row)
valid_put [] row valid here = cons row [] here valid
valid_put (r ∷ rows) row valid here = by (client_cmp row.client r.client) (valid_put rows row (tail r rows valid) here)
  where
    by : (o : Ordering) → All IsValidRow (put_row rows row) → All IsValidRow (match_ordering o (row ∷ r ∷ rows) (row ∷ rows) (r ∷ put_row rows row))
    by Less later = cons row (r ∷ rows) here valid
    by Equal later = cons row rows here (tail r rows valid)
    by Greater later = cons r (put_row rows row) (valid 0 r (omega arith)) later

-- a row that is found stands at some place, and is valid
record Found (rows : List Row) (row : Row) : Type 0 where
  place : ℕ
  there : slice_get rows place ≡ Some row
  valid : All IsValidRow rows → IsValidRow row

found : (rows : List Row) (client : ClientId) (row : Row) → row_of rows client ≡ Some row → Found rows row
found [] client row e = cc
found (r ∷ rows) client row e = by (client_eq r.client client) e (found rows client row)
  where
    by : (b : Bool) → cond b (Some r) (row_of rows client) ≡ Some row → (row_of rows client ≡ Some row → Found rows row) → Found (r ∷ rows) row
    by true e later = record { place = 0; there = e; valid = λ valid. let same : r ≡ row = cc in subst IsValidRow same (valid 0 r (omega arith)) }
    by false e later = let f = later e in record { place = suc f.place; there = f.there; valid = λ valid. f.valid (tail r rows valid) }

pub length_put : (rows : List Row) (row : Row) → length (put_row rows row) ≤ length rows + 1
length_put [] row = omega arith
length_put (r ∷ rows) row = by (client_cmp row.client r.client) (length_put rows row)
  where
    by : (o : Ordering) → length (put_row rows row) ≤ length rows + 1
        → length (match_ordering o (row ∷ r ∷ rows) (row ∷ rows) (r ∷ put_row rows row)) ≤ length (r ∷ rows) + 1
    by Less later = omega arith
    by Equal later = omega arith
    by Greater later = omega arith

length_put_known : (rows : List Row) (row old : Row) → IsRising rows → row_of rows row.client ≡ Some old → length (put_row rows row) ≡ length rows
length_put_known rows row old rising e =
    let f = found rows row.client old e in
    let here : IsRowAt rows row.client f.place = subst (λ o. IsSomeAnd o (λ r. r.client ≡ row.client)) (sym f.there) (row_of-client rows row.client old e) in
    ap length (put_row-at rows f.place row rising here) ∙ length-set rows f.place row

-- a row that is put where its client is known or there is room fits
pub fits_put : (rows : List Row) (row : Row) (limit : ℕ) → IsRising rows → length rows ≤ limit → IsSome (row_of rows row.client) ⊎ (length rows < limit)
    → length (put_row rows row) ≤ limit
fits_put rows row limit rising few (inr h) = let longer = length_put rows row in omega arith
fits_put rows row limit rising few (inl h) = known (row_of rows row.client) refl h
  where
    known : (o : Option Row) → row_of rows row.client ≡ o → IsSome o → length (put_row rows row) ≤ limit
    known None e h = absurd (cc)
    known (Some old) e h = let same = length_put_known rows row old rising e in omega arith

-- a valid row is put where its client is known or there is room
pub sound_put : (table : RecordTable) (row : Row) → IsSound table → IsValidRow row → IsSome (row_of table.rows row.client) ⊎ (length table.rows < table.limit)
    → IsSound (with_row table row)
sound_put table row sound valid room = record {
  limit_least = sound.limit_least;
  limit_most = sound.limit_most;
  few = fits_put table.rows row table.limit sound.rising sound.few room;
  rising = IsRising-put table.rows row sound.rising;
  valid = valid_put table.rows row sound.valid valid;
}

-- the row of a client that is known, after a valid request has acted
pub sound_act : (table : RecordTable) (client : ClientId) (number : ℕ) (request : Request) (kept : Option Kept) (row : Row) → IsSound table → IsValid request
    → row_of table.rows client ≡ Some row → kept ≡ (act request row.kept).0 → IsSound (with_row table (record { client = client; last = number; kept = kept }))
sound_act table client number request kept row sound sizes known is =
    sound_put table (record { client = client; last = number; kept = kept }) sound
    (subst IsValidKept (sym is) (act_valid request row.kept sizes ((found table.rows client row known).valid sound.valid)))
    (inl (ap is_some known))

-- only a backup leaves a record where there was none
pub backs_up : (request : Request) (kept : Kept) (response : Response) → (Some kept, response) ≡ act request None
    → (secret : List ℕ) × (pin : Hash) × (tries : ℕ) × (request ≡ Backup secret pin tries)
backs_up (Backup secret pin tries) kept response e = (secret, pin, tries, refl)
backs_up (Restore pin) kept response e = absurd (let f = ap (λ done. is_some done.0) e in cc)
backs_up Delete kept response e = absurd (let f = ap (λ done. is_some done.0) e in cc)
backs_up (Expose secret) kept response e = absurd (let f = ap (λ done. is_some done.0) e in cc)
