-- What a change makes of a record.
use Rattle.std.specs.Prelude.{◌≡◌, ℕ, true, List, Option, Some, None}
use Rattle.values.specs.declared.ids.ClientId.{ClientId}
use Rattle.values.specs.declared.row.Row.{Row}
use Rattle.values.specs.declared.row.Kept.{Kept}
use Rattle.values.specs.declared.message.Request.{Request}
use Rattle.values.specs.declared.message.Response.{Response}
use Rattle.record_table.specs.declared.change.Change.{Change}
use Rattle.record_table.specs.declared.change.Change.TheVariants.{Stay, Forget, Keep, Expose, Leave}
use Rattle.record_rules.specs.Table.{row_of, kept_in}
use Rattle.record_rules.specs.Rules.{act}

-- the record after the change
abbrev pub kept_after : Change → Option Kept → Option Kept
kept_after Stay kept = kept
kept_after Forget kept = None
kept_after (Keep record_kept) kept = Some record_kept
kept_after Expose None = None
kept_after Expose (Some kept) = Some (record kept { exposed = true })
kept_after (Leave left) None = None
kept_after (Leave left) (Some kept) = Some (record kept { left = left })

-- the client's row with this last number and its record changed
abbrev pub changed_row : List Row → ClientId → ℕ → Change → Row
changed_row rows client last change =
    record { client = client; last = last; kept = kept_after change (kept_in (row_of rows client)) }

-- the change and the response are those by which the record rules answer the request
abbrev pub IsOutcome : Request → Option Kept → Change × Response → Type 0
IsOutcome request kept (change, response) = (kept_after change kept, response) ≡ act request kept
