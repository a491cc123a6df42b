-- The record rules, and what one ask makes of a table.
use Rattle.std.specs.Prelude.{ℕ, ◌-◌, ◌==◌, nat_le, true, false, if◌then◌else◌, List, [], length, bytes_eq, Option, Some, None}
use Rattle.values.specs.declared.entry.Hash.{Hash}
use Rattle.values.specs.declared.ids.ClientId.{ClientId}
use Rattle.values.specs.declared.row.Row.{Row}
use Rattle.values.specs.declared.row.Kept.{Kept}
use Rattle.values.specs.declared.message.Request.{Request}
use Rattle.values.specs.declared.message.Request.TheVariants.{Backup, Restore, Delete, Expose}
use Rattle.values.specs.declared.message.Response.{Response}
use Rattle.values.specs.declared.message.Response.TheVariants.{Backup as BackedUp, Restore as Restored, Delete as Deleted, Expose as Exposed}
use Rattle.values.specs.declared.message.Reply.{Reply}
use Rattle.values.specs.declared.message.Reply.TheVariants.{Applied, Stale, TableFull}
use Rattle.record_rules.specs.declared.status.TheConstants.{OK, MISSING, PIN_MISMATCH, ERROR}
use Rattle.record_rules.specs.Table.{RecordTable, row_of, put_row}

-- a restore of an exposed record with another PIN: it takes one try, and at none left the record is gone
abbrev pub after_wrong_guess : Kept → Option Kept × Response
after_wrong_guess kept =
    let left = kept.left - 1 in
    (if left == 0 then None else Some (record kept { left = left }), Restored PIN_MISMATCH [] left)

-- a restore of an exposed record: the right PIN gives the secret and takes no try
abbrev pub after_guess : Hash → Kept → Option Kept × Response
after_guess pin kept = if bytes_eq kept.pin.0 pin.0 then (Some kept, Restored OK kept.secret kept.left) else after_wrong_guess kept

-- an expose with an equal secret marks the record exposed
abbrev pub after_expose : List ℕ → Kept → Option Kept × Response
after_expose secret kept =
    if bytes_eq kept.secret secret then (Some (record kept { exposed = true }), Exposed OK) else (Some kept, Exposed ERROR)

-- what a request that acts makes of the client's record, and its response
abbrev pub act : Request → Option Kept → Option Kept × Response
act (Backup secret pin tries) kept =
    (Some (record { secret = secret; pin = pin; left = tries; exposed = false }), BackedUp OK)
act (Restore pin) None = (None, Restored MISSING [] 0)
act (Restore pin) (Some kept) = if kept.exposed then after_guess pin kept else (Some kept, Restored MISSING [] 0)
act Delete kept = (None, Deleted)
act (Expose secret) None = (None, Exposed ERROR)
act (Expose secret) (Some kept) = after_expose secret kept

-- the ask acts: the client's last number becomes this number, and the record rules act
abbrev pub after_acting : RecordTable → ClientId → ℕ → Option Kept × Response → RecordTable × Reply
after_acting table client number (kept, response) =
    (record table { rows = put_row table.rows (record { client = client; last = number; kept = kept }) }, Applied response)

-- an ask of a known client
abbrev pub ask_known : RecordTable → ClientId → ℕ → Request → Row → RecordTable × Reply
ask_known table client number request row =
    if nat_le number row.last then (table, Stale row.last) else after_acting table client number (act request row.kept)

-- an ask of an unknown client: only a backup makes the client known, where there is room
abbrev pub ask_unknown : RecordTable → ClientId → ℕ → Request → RecordTable × Reply
ask_unknown table client number (Backup secret pin tries) =
    if length table.rows == table.limit then (table, TableFull table.limit)
    else after_acting table client number (act (Backup secret pin tries) None)
ask_unknown table client number request = (table, Applied (act request None).1)

-- an ask of a client that has this row, or none
abbrev pub apply_by : Option Row → RecordTable → ClientId → ℕ → Request → RecordTable × Reply
apply_by (Some row) table client number request = ask_known table client number request row
apply_by None table client number request = ask_unknown table client number request

-- the table after an ask, and the reply
abbrev pub apply : RecordTable → ClientId → ℕ → Request → RecordTable × Reply
apply table client number request = apply_by (row_of table.rows client) table client number request
