-- What one place does to the row of one client.
use Rattle.std.proofs.Common.{◌≡◌, ℕ, zero, suc, ◌<◌, Bool, true, false, cond, List, [], ◌∷◌, take, refl, sym, ap, subst, ◌⊎◌, inl, inr}
use Rattle.std.specs.Prelude.{Option, Some, None, option_map, IsSome, is_some, IsSomeAnd, fold, nat_le, ◌==◌, length}
use Rattle.std.proofs.lemmas.Bool.{leb-false}
use Rattle.values.specs.declared.entry.Hash.{Hash}
use Rattle.values.specs.declared.ids.ClientId.{ClientId}
use Rattle.values.specs.declared.row.Row.{Row}
use Rattle.values.specs.declared.row.Kept.{Kept}
use Rattle.values.specs.declared.message.Request.{Request}
use Rattle.values.specs.declared.message.Request.TheVariants.{Backup, Restore, Delete, Expose}
use Rattle.values.specs.declared.message.Response.{Response}
use Rattle.values.specs.declared.message.Reply.{Reply}
use Rattle.values.specs.declared.message.Reply.TheVariants.{Applied, Stale, TableFull}
use Rattle.record_rules.specs.Clients.{client_eq}
use Rattle.record_rules.specs.Table.{RecordTable, row_of, put_row, kept_in}
use Rattle.record_rules.specs.Rules.{act, after_acting, apply, apply_by}
use Rattle.record_rules.specs.Places.{ClientAsk, Places, apply_place, fold_places, ask_at, reply_at, is_ask_of, IsApplied}
use Rattle.record_rules.specs.Laws.{row_after, IsBackup}
use Rattle.record_rules.proofs.Clients.{client_eq-true}
use Rattle.record_rules.proofs.Rows.{row_of-put_same, row_of-put_other}

-- the client's row before and after a place, and the reply there
pub data Turn (client : ClientId) (before after : Option Row) (place : Option ClientAsk) (reply : Option Reply) : Type 0 where
  -- the place holds no ask of the client
  others : is_ask_of client place ≡ false → after ≡ before → Turn client before after place reply
  -- the ask does not act
  refused : after ≡ before → ¬ (IsSomeAnd reply IsApplied) → Turn client before after place reply
  -- the client stays unknown
  unknown : (number : ℕ) (request : Request) → place ≡ Some (record { client = client; number = number; request = request })
      → ((secret : List ℕ) (pin : Hash) (tries : ℕ) → ¬ (request ≡ Backup secret pin tries))
      → before ≡ None → after ≡ None → reply ≡ Some (Applied (act request None).1) → Turn client before after place reply
  -- the ask acts by the record rules
  acts : (number : ℕ) (request : Request) → place ≡ Some (record { client = client; number = number; request = request })
      → IsSome before ⊎ IsBackup request → ((row : Row) → before ≡ Some row → row.last < number)
      → after ≡ Some (record { client = client; last = number; kept = (act request (kept_in before)).0 })
      → reply ≡ Some (Applied (act request (kept_in before)).1) → Turn client before after place reply

abbrev pub reply_to : RecordTable → Option ClientAsk → Option Reply
reply_to table place = option_map (λ ask. (apply table ask.client ask.number ask.request).1) place

module _ (table : RecordTable) (client : ClientId) (number : ℕ) (request : Request) where
  -- the ask leaves the rows of all others
  abbrev Leaves : RecordTable × Reply → Type 0
  Leaves after = (other : ClientId) → client_eq client other ≡ false → row_of after.0.rows other ≡ row_of table.rows other

  leaves_acted : (done : Option Kept × Response) → Leaves (after_acting table client number done)
  leaves_acted done other e = row_of-put_other table.rows (record { client = client; last = number; kept = done.0 }) other e

  leaves_either : (refusal : Reply) (done : Option Kept × Response) (b : Bool) → Leaves (cond b (table, refusal) (after_acting table client number done))
  leaves_either refusal done true other e = refl
  leaves_either refusal done false other e = leaves_acted done other e

  -- what the ask does to its client's row
  abbrev Turns : RecordTable × Reply → Type 0
  Turns after =
      Turn client (row_of table.rows client) (row_of after.0.rows client) (Some (record { client = client; number = number; request = request })) (Some after.1)

  turns_acted : (kept : Option Kept) → kept_in (row_of table.rows client) ≡ kept → IsSome (row_of table.rows client) ⊎ IsBackup request
      → ((row : Row) → row_of table.rows client ≡ Some row → row.last < number) → Turns (after_acting table client number (act request kept))
  turns_acted kept e puts above =
      acts number request refl puts above
      (subst (λ k. row_of (put_row table.rows (record { client = client; last = number; kept = (act request kept).0 })) client
      ≡ Some (record { client = client; last = number; kept = (act request k).0 })) (sym e)
      (row_of-put_same table.rows (record { client = client; last = number; kept = (act request kept).0 })))
      (ap (λ k. Some (Applied (act request k).1)) (sym e))

  turns_known : (row : Row) (b : Bool) → nat_le number row.last ≡ b → row_of table.rows client ≡ Some row
      → Turns (cond b (table, Stale row.last) (after_acting table client number (act request row.kept)))
  turns_known row true test e = refused refl (λ h. h)
  turns_known row false test e =
      turns_acted row.kept (ap kept_in e) (inl (ap is_some e)) (λ s f. let same : s ≡ row = cc in subst (λ r. r.last < number) (sym same) (leb-false number row.last test))

  turns_backup : (b : Bool) → IsBackup request → row_of table.rows client ≡ None
      → Turns (cond b (table, TableFull table.limit) (after_acting table client number (act request None)))
  turns_backup true backup e = refused refl (λ h. h)
  turns_backup false backup e = turns_acted None (ap kept_in e) (inr backup) (λ s f. cc)

leaves_by : (table : RecordTable) (client : ClientId) (number : ℕ) (request : Request) (found : Option Row)
    → Leaves table client number request (apply_by found table client number request)
leaves_by table client number request (Some row) =
    leaves_either table client number request (Stale row.last) (act request row.kept) (nat_le number row.last)
leaves_by table client number (Backup secret pin tries) None =
    leaves_either table client number (Backup secret pin tries) (TableFull table.limit) (act (Backup secret pin tries) None) (length table.rows == table.limit)
leaves_by table client number (Restore pin) None = λ other e. refl
leaves_by table client number Delete None = λ other e. refl
leaves_by table client number (Expose secret) None = λ other e. refl

turns_by : (table : RecordTable) (client : ClientId) (number : ℕ) (request : Request) (found : Option Row) → row_of table.rows client ≡ found
    → Turns table client number request (apply_by found table client number request)
turns_by table client number request (Some row) e = turns_known table client number request row (nat_le number row.last) refl e
turns_by table client number (Backup secret pin tries) None e = turns_backup table client number (Backup secret pin tries) (length table.rows == table.limit) tt e
turns_by table client number (Restore pin) None e = unknown number (Restore pin) refl (λ s p n h. cc) e e refl
turns_by table client number Delete None e = unknown number Delete refl (λ s p n h. cc) e e refl
turns_by table client number (Expose secret) None e = unknown number (Expose secret) refl (λ s p n h. cc) e e refl

turn_of_ask : (table : RecordTable) (client : ClientId) (ask : ClientAsk) (b : Bool) → client_eq ask.client client ≡ b
    → Turn client (row_of table.rows client) (row_of (apply_place table (Some ask)).rows client) (Some ask) (reply_to table (Some ask))
turn_of_ask table client ask false e = others e (leaves_by table ask.client ask.number ask.request (row_of table.rows ask.client) client e)
turn_of_ask table client ask true e =
    subst (λ c. Turn c (row_of table.rows c) (row_of (apply_place table (Some ask)).rows c) (Some ask) (reply_to table (Some ask)))
    (client_eq-true ask.client client e)
    (turns_by table ask.client ask.number ask.request (row_of table.rows ask.client) refl)

-- every place takes one of the turns
pub turn : (table : RecordTable) (client : ClientId) (place : Option ClientAsk)
    → Turn client (row_of table.rows client) (row_of (apply_place table place).rows client) place (reply_to table place)
turn table client None = others refl refl
turn table client (Some ask) = turn_of_ask table client ask (client_eq ask.client client) refl

grown : (table : RecordTable) (places : Places) (k : ℕ)
    → fold apply_place table (take (suc k) places) ≡ apply_place (fold apply_place table (take k places)) (ask_at places (suc k))
grown table [] zero = refl
grown table [] (suc k) = refl
grown table (place ∷ places) zero = refl
grown table (place ∷ places) (suc k) = grown (apply_place table place) places k

-- the table after one place more
pub fold_more : (limit : ℕ) (places : Places) (k : ℕ)
    → fold_places limit (take (suc k) places) ≡ apply_place (fold_places limit (take k places)) (ask_at places (suc k))
fold_more limit places k = grown (record { limit = limit; rows = [] }) places k

pub turn_at : (limit : ℕ) (places : Places) (client : ClientId) (k : ℕ)
    → Turn client (row_after limit places client k) (row_after limit places client (suc k)) (ask_at places (suc k)) (reply_at limit places (suc k))
turn_at limit places client k =
    subst (λ table. Turn client (row_after limit places client k) (row_of table.rows client) (ask_at places (suc k)) (reply_at limit places (suc k)))
    (sym (fold_more limit places k))
    (turn (fold_places limit (take k places)) client (ask_at places (suc k)))
