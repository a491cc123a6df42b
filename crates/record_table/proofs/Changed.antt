-- A table stays sound where a change is made in it.
use Rattle.std.proofs.Common.{◌≡◌, ℕ, ◌<◌, inr, List, length, sym, ap, subst, ◌∙◌}
use Rattle.std.specs.Prelude.{Some, None}
use Rattle.values.specs.declared.ids.ClientId.{ClientId}
use Rattle.values.specs.declared.row.Row.{Row}
use Rattle.values.specs.declared.row.Kept.{Kept}
use Rattle.values.specs.declared.message.Request.{Request}
use Rattle.values.specs.declared.message.Response.{Response}
use Rattle.values.specs.Sizes.{IsValid}
use Rattle.record_rules.specs.Table.{RecordTable, row_of, kept_in, put_row}
use Rattle.record_rules.specs.Valid.{IsSound}
use Rattle.record_rules.proofs.Sound.{IsValidKept, act_valid, sound_act, sound_put}
use Rattle.record_table.specs.declared.change.Change.{Change}
use Rattle.record_table.specs.declared.change.Change.TheVariants.{Keep}
use Rattle.record_table.specs.Changes.{kept_after, IsOutcome}

-- the rows after a valid request of a known client has acted
pub sound_change : (table : RecordTable) (client : ClientId) (number : ℕ) (request : Request) (change : Change) (response : Response) (row : Row) (rows : List Row)
    → IsSound table → IsValid request → row_of table.rows client ≡ Some row → IsOutcome request row.kept (change, response)
    → rows ≡ put_row table.rows (record { client = client; last = number; kept = kept_after change (kept_in (row_of table.rows client)) })
    → IsSound (record table { rows = rows })
sound_change table client number request change response row rows sound sizes known answered is =
    subst (λ r. IsSound (record table { rows = r })) (sym is)
    (sound_act table client number request (kept_after change (kept_in (row_of table.rows client))) row sound sizes known
    (ap (λ r. kept_after change (kept_in r)) known ∙ ap (λ done. done.0) answered))

-- the rows after a valid backup of an unknown client
pub sound_new : (table : RecordTable) (client : ClientId) (number : ℕ) (request : Request) (kept : Kept) (response : Response) (rows : List Row)
    → IsSound table → IsValid request → IsOutcome request None (Keep kept, response) → length table.rows < table.limit
    → rows ≡ put_row table.rows (record { client = client; last = number; kept = Some kept }) → IsSound (record table { rows = rows })
sound_new table client number request kept response rows sound sizes answered room is =
    subst (λ r. IsSound (record table { rows = r })) (sym is)
    (sound_put table (record { client = client; last = number; kept = Some kept }) sound
    (subst IsValidKept (sym (ap (λ done. done.0) answered)) (act_valid request None sizes tt)) (inr room))
